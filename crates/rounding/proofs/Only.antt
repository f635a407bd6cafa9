-- A fraction has one rounding: no second number of units is `Rounded`, and no second float is that number. So what is rounded as IEEE 754 says is what `round` gives. Assumes nothing.
use mathlib.Core.Path.{◌≡◌, sym, ap, subst}
use mathlib.Core.Logic.{◌⊎◌, inl, inr}
use mathlib.Core.Bool.{Bool}
use Prim.Native.Nat.{ℕ, suc, ◌*◌, ◌^◌, ◌<◌}
use native.Mathlib.Nat.{le_of_eq, le_antisymm, lt_of_le_of_lt, lt_irrefl, not-le_of_lt, eq-or-lt_of_le, suc-mul, mul-lt-mul_of_pos_right}
use native.Mathlib.Decide.{dec_lt}
use native.Mathlib.Omega.{arith}
use lib.Dec.{T}
use lib.Pow.{pow_pos}
use lib.Ieee.{Float, Format, prec, low, round, fits}
use lib.Ieee.Exact.{HasValue}
use lib.Ieee.Fits.{round-fits}
use Rattle.rounding.specs.Rounding.{Rounded, away, last_digit, overflows_from}
use Rattle.rounding.proofs.Closest.{apart}
use Rattle.rounding.proofs.Gaps.{lost, top, top_is, next, above-held, above_odd}
use Rattle.rounding.proofs.Rounding.{round_under}
use Rattle.rounding.proofs.Fitting.{value_only}

-- ---- a number between two that are as far from n is nearer than they are
middle : (a b c n : ℕ) → a < b → b < c → apart a n ≡ apart c n → apart b n < apart a n
middle a b c n h l e = omega arith

-- ---- a smaller and a larger rounding of one fraction: the value next above the smaller one lies between, or is the larger, whose last digit is then odd
module _ (f : Format) (num den v w : ℕ) (D : 0 < den) (r : Rounded f num den v) (t : Rounded f num den w) (h : v < w) where
  alike : away f num den v ≡ away f num den w
  alike = le_antisymm (r.nearest w t.held) (t.nearest v r.held)

  v_even : last_digit f v ≡ 0
  v_even = r.even w t.held (λ (e : w ≡ v). lt_irrefl v (subst (λ (x : ℕ). v < x) e h)) (sym alike)

  w_even : last_digit f w ≡ 0
  w_even = t.even v r.held (λ (e : v ≡ w). lt_irrefl v (subst (λ (x : ℕ). v < x) (sym e) h)) alike

  abbrev u : ℕ
  u = suc (top f v) * 2 ^ lost (prec f) v

  v_below : v < u
  v_below = lt_of_le_of_lt (le_of_eq (top_is f v r.held)) (omega (arith, suc-mul (top f v) (2 ^ lost (prec f) v), pow_pos (lost (prec f) v)))

  clash : ⊥
  clash = go (eq-or-lt_of_le (next f v r.held w t.held h))
    where
      go : (u ≡ w) ⊎ (u < w) → ⊥
      go (inl e) = omega (arith, above_odd f v r.held v_even, ap (last_digit f) e, w_even)
      go (inr l) = not-le_of_lt (middle (v * den) (u * den) (w * den) (num * 2 ^ low f) (mul-lt-mul_of_pos_right v_below D) (mul-lt-mul_of_pos_right l D) alike) (r.nearest u (above-held f v r.held v_even))

pub rounded-only : (f : Format) (num den v w : ℕ) → 0 < den → Rounded f num den v → Rounded f num den w → v ≡ w
rounded-only f num den v w D r t =
    elim (dec_lt v w) [ yes h ↦ absurd (clash f num den v w D r t h) | no h ↦ elim (dec_lt w v) [ yes g ↦ absurd (clash f num den w v D t r g) | no g ↦ omega arith ] ]

-- below the limit, a float that is the rounded number of units is what `round` gives. From the limit on that number is the largest value (`largest_rounded`), and `round` gives an infinity
pub round_is_the_one : (f : Format) (x : Float) (s : Bool) (num den v : ℕ) → 0 < den → num < overflows_from f * den → T (fits f x) → HasValue x s v (2 ^ low f) → Rounded f num den v → x ≡ round f s num den
round_is_the_one f x s num den v D l t h r =
    let o = round_under f s num den D l in
    value_only f x (round f s num den) s v t (round-fits f s num den) h
    (subst (λ (w : ℕ). HasValue (round f s num den) s w (2 ^ low f)) (rounded-only f num den o.0 v D o.1 r) o.2)

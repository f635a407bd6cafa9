-- What `round` keeps of a fraction is nearest: no value of the format is nearer than `grid`, and if another is as near the last digit of `grid` is even. Assumes nothing.
use mathlib.Core.Path.{◌≡◌, refl, sym, ap, subst, ◌∙◌}
use mathlib.Core.Logic.{◌⊎◌, inl, inr}
use Prim.Native.Nat.{ℕ, ◌+◌, ◌-◌, ◌*◌, ◌/◌, ◌%◌, ◌^◌, ◌≤◌, ◌<◌, compare}
use native.Mathlib.Nat.{le_trans, le_of_eq, le_of_lt, lt_irrefl, lt_of_lt_of_le, mul_assoc, mul_comm, mul-pos, mul-lt-mul_of_pos_right, le-div_iff_mul-le, div-div-eq-div-mul}
use native.Mathlib.Decide.{dec_le}
use native.Mathlib.Omega.{arith}
use lib.Pow.{pow-add, pow_pos, pow_mono}
use lib.Ieee.{Format, prec, low, size}
use lib.Ieee.Digits.{size-lt}
use lib.Ieee.Fits.{kept-lt, nearest-le}
use lib.Ieee.Order.{drop, kept}
use lib.Ieee.Scale.{grid}
use Rattle.rounding.specs.Rounding.{Held, away, last_digit}
use Rattle.rounding.proofs.Closest.{apart, close, none-nearer, tie_even, at_least}
use Rattle.rounding.proofs.Gaps.{lost, positive, leading, last_even, multiple}

module _ (f : Format) (num den : ℕ) (D : 0 < den) where
  -- n / den is the fraction, in units of the format's smallest value; q multiples of 2 ^ k units are kept of it, each of which is u / den
  abbrev p : ℕ
  p = prec f

  abbrev n : ℕ
  n = num * 2 ^ low f

  abbrev k : ℕ
  k = drop p n den

  abbrev u : ℕ
  u = den * 2 ^ k

  abbrev q : ℕ
  q = kept p n den

  u_pos : 0 < u
  u_pos = mul-pos D (pow_pos k)

  pub kept_le : q ≤ 2 ^ p
  kept_le = le_trans (nearest-le (n / u) (compare (n % u * 2) u)) (subst (λ (x : ℕ). x < 2 ^ p) (div-div-eq-div-mul n den (2 ^ k)) (kept-lt p (n / den)))

  scaled : (m : ℕ) → m * 2 ^ k * den ≡ m * u
  scaled m = mul_assoc m (2 ^ k) den ∙ ap (λ (x : ℕ). m * x) (mul_comm (2 ^ k) den)

  -- if digits are dropped, p digits are before them
  reaches : 0 < k → 2 ^ (p - 1) * u ≤ n
  reaches g = le_trans (le_of_eq (sym (scaled (2 ^ (p - 1))))) ((le-div_iff_mul-le D).0 (leading p (n / den) (positive f) g))

  pub kept-ge : 0 < k → 2 ^ (p - 1) ≤ q
  kept-ge g = at_least n u (2 ^ (p - 1)) u_pos (reaches g)

  -- ---- a value w of the format is a multiple of 2 ^ k, or lies below those p digits
  abbrev Sides : ℕ → Type 0
  Sides w = ((m : ℕ) × (w ≡ m * 2 ^ k)) ⊎ ((0 < k) × (w < 2 ^ (p - 1) * 2 ^ k))

  sides : (w : ℕ) → Held f w → Sides w
  sides w h =
      elim (dec_le k (lost p w)) [
        | yes l ↦ inl (multiple f w h k l)
        | no l ↦ inr (omega arith, lt_of_lt_of_le (size-lt w) (le_trans (pow_mono {i = size w} {j = p - 1 + k} (omega (arith, positive f))) (le_of_eq (pow-add 2 (p - 1) k))))
      ]

  gap_on : (w m : ℕ) → w ≡ m * 2 ^ k → away f num den w ≡ apart (m * u) n
  gap_on w m e = ap (λ (x : ℕ). apart x n) (ap (λ (x : ℕ). x * den) e ∙ scaled m)

  own : away f num den (grid f num den) ≡ apart (q * u) n
  own = gap_on (grid f num den) q refl

  -- among the multiples q is nearest
  nearer : (m : ℕ) → apart (q * u) n ≤ apart (m * u) n
  nearer = none-nearer n u q (close n u u_pos)

  -- below the digits nothing is as near
  further : (w : ℕ) → 0 < k → w < 2 ^ (p - 1) * 2 ^ k → apart (q * u) n < apart (w * den) n
  further w g h =
      let a : w * den < 2 ^ (p - 1) * u = lt_of_lt_of_le (mul-lt-mul_of_pos_right h D) (le_of_eq (scaled (2 ^ (p - 1)))) in
      omega (arith, nearer (2 ^ (p - 1)), reaches g)

  pub grid_nearest : (w : ℕ) → Held f w → away f num den (grid f num den) ≤ away f num den w
  grid_nearest w h = go (sides w h)
    where
      go : Sides w → away f num den (grid f num den) ≤ away f num den w
      go (inl (m, e)) = le_trans (le_of_eq own) (le_trans (nearer m) (le_of_eq (sym (gap_on w m e))))
      go (inr (g, l)) = le_trans (le_of_eq own) (le_of_lt (further w g l))

  pub grid_even : (w : ℕ) → Held f w → (w ≡ grid f num den → ⊥) → away f num den w ≡ away f num den (grid f num den) → last_digit f (grid f num den) ≡ 0
  grid_even w h d e = last_even f q k kept_le kept-ge (go (sides w h))
    where
      go : Sides w → q % 2 ≡ 0
      go (inl (m, i)) = tie_even n u q (close n u u_pos) m (λ (s : m ≡ q). d (i ∙ ap (λ (x : ℕ). x * 2 ^ k) s)) (sym (gap_on w m i) ∙ e ∙ own)
      go (inr (g, l)) = absurd (lt_irrefl (apart (q * u) n) (lt_of_lt_of_le (further w g l) (le_of_eq (e ∙ own))))

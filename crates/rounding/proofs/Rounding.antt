-- `round` gives the value of the format that is nearest to its fraction, ties to even, and from `overflows_from` on an infinity: IEEE 754-2019, 4.3.1. Assumes nothing.
use mathlib.Core.Path.{◌≡◌, refl, sym, ap, subst, ◌∙◌}
use mathlib.Core.Logic.{◌⊎◌, inl, inr}
use mathlib.Core.Bool.{Bool, cond}
use Prim.Native.Nat.{ℕ, suc, ◌+◌, ◌-◌, ◌*◌, ◌/◌, ◌%◌, ◌^◌, ◌≤◌, ◌<◌}
use native.Mathlib.Nat.{le_trans, le_of_eq, lt_of_lt_of_le, lt_of_le_of_lt, eq-or-lt_of_le, eq_of_mul-eq-mul_right, mul_assoc, mul_comm, mul_right_comm, add-mul, suc-mul, mul-pos, mul-le-mul, mul-le-mul_left, mul-le-mul_right, mul-lt-mul_of_pos_right, le-div_iff_mul-le, div-lt_iff_lt-mul}
use native.Mathlib.Omega.{arith}
use borrow.Author.Tests.{le-ltb}
use lib.Dec.{lit≤}
use lib.Pow.{pow-add, pow_pos, pow_mono, pow-lt}
use lib.Ieee.{Float, inf, Format, binary32, binary64, prec, emax, low, odd, units, round}
use lib.Ieee.Digits.{size-le}
use lib.Ieee.Exact.{HasValue, units_val}
use lib.Ieee.Fits.{two, round_is}
use lib.Ieee.Nearest.{closest}
use lib.Ieee.Order.{drop, kept}
use lib.Ieee.Scale.{grid, overflow}
use Rattle.rounding.specs.Rounding.{Held, Rounded, away, overflows_from}
use Rattle.rounding.proofs.Closest.{above_half, below_half}
use Rattle.rounding.proofs.Gaps.{positive, twice, carry, size-gt}
use Rattle.rounding.proofs.Grid.{kept_le, kept-ge, grid_nearest, grid_even}

-- ---- the largest shift of a value, and where the values end
wide : (f : Format) → prec f ≤ emax f
wide binary32 = lit≤ tt
wide binary64 = lit≤ tt

abbrev pub last : Format → ℕ
last f = 2 * emax f - 1

pub last_in : (f : Format) → last f < 2 * emax f
last_in f = omega (arith, two f, wide f)

pub overflow_is : (f : Format) → overflow f ≡ 2 ^ prec f * 2 ^ last f
overflow_is f =
    let e : low f + suc (emax f) ≡ prec f + last f = omega (arith, two f, wide f) in
    ap (λ (x : ℕ). 2 ^ x) e ∙ pow-add 2 (prec f) (last f)

-- half of the last gap
abbrev half : Format → ℕ
half f = 2 ^ (last f - 1)

two_halves : (f : Format) → 2 ^ last f ≡ half f + half f
two_halves f = twice (last f) (omega (arith, two f, wide f))

-- an infinity from a half of the last gap below the end
limit : (f : Format) → overflows_from f * 2 ^ low f + half f ≡ 2 ^ prec f * 2 ^ last f
limit f =
    let p = prec f in
    let E = emax f in
    let a : overflows_from f + 2 ^ (E - p) ≡ 2 ^ suc E = omega (arith, pow_mono {i = E - p} {j = suc E} (omega arith)) in
    let b : E - p + low f ≡ last f - 1 = omega (arith, two f, wide f) in
    let c : suc E + low f ≡ p + last f = omega (arith, two f, wide f) in
    ap (λ (x : ℕ). overflows_from f * 2 ^ low f + 2 ^ x) (sym b)
    ∙ ap (λ (x : ℕ). overflows_from f * 2 ^ low f + x) (pow-add 2 (E - p) (low f))
    ∙ sym (add-mul (overflows_from f) (2 ^ (E - p)) (2 ^ low f))
    ∙ ap (λ (x : ℕ). x * 2 ^ low f) a
    ∙ sym (pow-add 2 (suc E) (low f))
    ∙ ap (λ (x : ℕ). 2 ^ x) c
    ∙ pow-add 2 p (last f)

pub held-under : (f : Format) (v : ℕ) → Held f v → v < overflow f
held-under f v h =
    subst (λ (x : ℕ). x < overflow f) (sym h.is)
    (lt_of_lt_of_le (mul-lt-mul_of_pos_right h.few (pow_pos h.shift))
    (le_trans (mul-le-mul_left (2 ^ prec f) (pow_mono {i = h.shift} {j = last f} (omega (arith, h.in_range)))) (le_of_eq (sym (overflow_is f)))))

-- ---- num / den, rounded
module _ (f : Format) (num den : ℕ) (D : 0 < den) where
  abbrev p : ℕ
  p = prec f

  abbrev n : ℕ
  n = num * 2 ^ low f

  abbrev k : ℕ
  k = drop p n den

  abbrev q : ℕ
  q = kept p n den

  -- the end of the values less the half, over den
  limit_den : overflows_from f * den * 2 ^ low f + half f * den ≡ 2 ^ p * 2 ^ last f * den
  limit_den = ap (λ (x : ℕ). x + half f * den) (mul_right_comm (overflows_from f) den (2 ^ low f)) ∙ sym (add-mul (overflows_from f * 2 ^ low f) (half f) den) ∙ ap (λ (x : ℕ). x * den) (limit f)

  -- the greatest number of p digits, M, and what lies a half above it: in halves of 2 ^ last
  abbrev M : ℕ
  M = 2 ^ p - 1

  U : 0 < den * 2 ^ last f
  U = mul-pos D (pow_pos (last f))

  halves : 2 * (M * (den * 2 ^ last f)) + den * 2 ^ last f + 2 * (half f * den) ≡ 2 * (2 ^ p * 2 ^ last f * den)
  halves =
      let u = den * 2 ^ last f in
      let a : suc M ≡ 2 ^ p = omega (arith, pow_pos p) in
      let b : M * u + u ≡ 2 ^ p * 2 ^ last f * den = sym (suc-mul M u) ∙ ap (λ (x : ℕ). x * u) a ∙ ap (λ (x : ℕ). 2 ^ p * x) (mul_comm den (2 ^ last f)) ∙ sym (mul_assoc (2 ^ p) (2 ^ last f) den) in
      let c : u ≡ half f * den + half f * den = mul_comm den (2 ^ last f) ∙ ap (λ (x : ℕ). x * den) (two_halves f) ∙ add-mul (half f) (half f) den in
      omega arith

  odd_M : M % 2 ≡ 1
  odd_M = omega (arith, twice p (positive f), pow_pos (p - 1))

  -- ---- below the limit
  module _ (h : num < overflows_from f * den) where
    under : n + half f * den < 2 ^ p * 2 ^ last f * den
    under = omega (arith, mul-lt-mul_of_pos_right h (pow_pos (low f)), limit_den)

    drop_le : k ≤ last f
    drop_le = omega (arith, size-le (n / den) (p + last f) ((div-lt_iff_lt-mul D).1 (lt_of_lt_of_le (le_trans (omega arith) under) (le_of_eq (ap (λ (x : ℕ). x * den) (sym (pow-add 2 p (last f))))))))

    -- at the largest shift nothing is carried
    at_last : k ≡ last f → q < 2 ^ p
    at_last e =
        subst (λ (x : ℕ). closest n (den * 2 ^ x) < 2 ^ p) (sym e)
        (lt_of_le_of_lt (below_half n (den * 2 ^ last f) M U (omega (arith, under, halves))) (omega (arith, pow_pos p)))

    grid_held : Held f (grid f num den)
    grid_held = go (eq-or-lt_of_le (kept_le f num den D))
      where
        go : (q ≡ 2 ^ p) ⊎ (q < 2 ^ p) → Held f (grid f num den)
        go (inr l) = record { digits = q; shift = k; few = l; in_range = lt_of_le_of_lt drop_le (last_in f); is = refl }
        go (inl e) = record { digits = 2 ^ (p - 1); shift = suc k; few = pow-lt (omega (arith, positive f)); in_range = lt_of_le_of_lt (below (eq-or-lt_of_le drop_le)) (last_in f); is = ap (λ (x : ℕ). x * 2 ^ k) e ∙ carry p k (positive f) }
          where
            below : (k ≡ last f) ⊎ (k < last f) → k < last f
            below (inr l) = l
            below (inl s) = absurd (omega (arith, at_last s))

    pub grid_rounded : Rounded f num den (grid f num den)
    grid_rounded = record { held = grid_held; nearest = grid_nearest f num den D; even = grid_even f num den D }

  -- ---- from the limit on
  module _ (h : overflows_from f * den ≤ num) where
    over : 2 ^ p * 2 ^ last f * den ≤ n + half f * den
    over = omega (arith, mul-le-mul_right (2 ^ low f) h, limit_den)

    drop-ge : last f ≤ k
    drop-ge =
        let b = 2 ^ (p - 1 + last f) in
        let a : 2 ^ p * 2 ^ last f * den ≡ b * den + b * den = ap (λ (x : ℕ). x * den) (sym (pow-add 2 p (last f)) ∙ twice (p + last f) (omega (arith, positive f)) ∙ ap (λ (x : ℕ). 2 ^ x + 2 ^ x) e) ∙ add-mul b b den in
        let c : half f * den ≤ b * den = mul-le-mul_right den (pow_mono {i = last f - 1} {j = p - 1 + last f} (omega arith)) in
        omega (arith, positive f, size-gt (n / den) (p - 1 + last f) ((le-div_iff_mul-le D).1 (omega (arith, over))))
      where
        e : p + last f - 1 ≡ p - 1 + last f
        e = omega (arith, positive f)

    grid_over : overflow f ≤ grid f num den
    grid_over = le_trans (le_of_eq (overflow_is f)) (go (eq-or-lt_of_le drop-ge))
      where
        go : (last f ≡ k) ⊎ (last f < k) → 2 ^ p * 2 ^ last f ≤ grid f num den
        go (inl e) =
            let c : M < closest n (den * 2 ^ last f) = above_half n (den * 2 ^ last f) M U odd_M (omega (arith, over, halves)) in
            subst (λ (x : ℕ). 2 ^ p * 2 ^ last f ≤ closest n (den * 2 ^ x) * 2 ^ x) e (mul-le-mul_right (2 ^ last f) (omega (arith, pow_pos p)))
        go (inr l) =
            le_trans (le_of_eq (carry p (last f) (positive f))) (mul-le-mul (kept-ge f num den D (omega arith)) (pow_mono l))

    -- the value nearest to the fraction is then the largest one: that `round` gives an infinity all the same is a rule of its own
    abbrev largest : ℕ
    largest = M * 2 ^ last f

    largest_le : largest * den ≤ n
    largest_le = omega (arith, over, halves, mul_assoc M (2 ^ last f) den, ap (λ (x : ℕ). M * x) (mul_comm (2 ^ last f) den))

    most : (w : ℕ) → Held f w → w ≤ largest
    most w g = le_trans (le_of_eq g.is) (mul-le-mul {n₁ = g.digits} {n₂ = M} (omega (arith, g.few)) (pow_mono {i = g.shift} {j = last f} (omega (arith, g.in_range))))

    pub largest_rounded : Rounded f num den largest
    largest_rounded =
        record {
          held = record { digits = M; shift = last f; few = omega (arith, pow_pos p); in_range = last_in f; is = refl };
          nearest = λ w g. omega (arith, largest_le, mul-le-mul_right den (most w g));
          even = λ w g d e. absurd (d (same w g e));
        }
      where
        same : (w : ℕ) → Held f w → away f num den w ≡ away f num den largest → w ≡ largest
        same w g e = eq_of_mul-eq-mul_right den D w largest (omega (arith, largest_le, mul-le-mul_right den (most w g)))

units_over : (f : Format) (s : Bool) (q k : ℕ) → overflow f ≤ q * 2 ^ k → units f s q k ≡ inf s
unfolding units
units_over f s q k h = ap (λ (b : Bool). cond b (odd (suc (prec f)) s q k (low f)) (inf s)) (le-ltb (q * 2 ^ k) (overflow f) h)

pub round_over : (f : Format) (s : Bool) (num den : ℕ) → 0 < den → overflows_from f * den ≤ num → round f s num den ≡ inf s
round_over f s num den D h = round_is f s num den ∙ units_over f s (q f num den D) (k f num den D) (grid_over f num den D h)

pub round_under : (f : Format) (s : Bool) (num den : ℕ) → 0 < den → num < overflows_from f * den → (v : ℕ) × Rounded f num den v × HasValue (round f s num den) s v (2 ^ low f)
round_under f s num den D h =
    let r = grid_rounded f num den D h in
    (grid f num den, r, subst (λ (x : Float). HasValue x s (grid f num den) (2 ^ low f)) (sym (round_is f s num den)) (units_val f s (q f num den D) (k f num den D) (held-under f (grid f num den) r.held)))

-- A number of binary32 from 0.5 to 255 has no digit below 2 ^ -24. So 2 ^ 28 more than it is a value of binary64, and that value's pattern has the number, in units of 2 ^ -24, as its last digits.
-- Assumes nothing.
use Rattle.std.proofs.Common.{◌≡◌, ℕ, ◌+◌, ◌-◌, ◌*◌, ◌/◌, ◌%◌, ◌^◌, ◌<◌, ◌≤◌, min, true, false, not, T, ℤ, sym, refl, ap, ◌∙◌, le_trans, le_of_eq, lt_of_lt_of_le, mul-le-mul_right, mul_assoc, mul_comm, add-mul, mul-lt-mul_of_pos_right, mul-one, mul_right_comm, not-le_of_lt, le_of_mul-le-mul_right, mul-div_cancel, arith, pow_pos, pow_mono}
use native.Mathlib.Nat.{eq_of_mul-eq-mul_right, mul-div-mul_right, div-eq_of_eq-mul_left}
use native.Mathlib.Decide.{dec_lt}
use lib.Ieee.{Float, nan, inf, fin, binary32, binary64, up, down, size, add, of_bits, to_bits, fits, le, is_nan}
use lib.Ieee.Digits.{size-lt, size-le}
use lib.Ieee.Exact.{HasValue, round_exact}
use lib.Ieee.Fits.{down_pos}
use lib.Ieee.Positive.{positive, between, le→cross}
use Rattle.ieee.specs.Units.{wholes}
use Rattle.ieee.specs.Casts.{cut_of}
use Rattle.ieee.proofs.Bytes.{cut_value, half, most}
use Rattle.ieee.proofs.Compare.{differ}
use Rattle.ieee.proofs.Nearest.{grid, multiple}
use Rattle.ieee.proofs.Values.{exact}

-- ---- the pattern of a value of binary64 from 2 ^ 28 to before 2 ^ 29, in units of 2 ^ -24
module _ (q : ℕ) (lo : 2 ^ 52 ≤ q) (hi : q < 2 ^ 53) where
  w_size : size (q * 2 ^ 1050) ≡ 1103
  w_size =
      let w = q * 2 ^ 1050 in
      let l : size w ≤ 1103 = size-le w 1103 (mul-lt-mul_of_pos_right hi (pow_pos 1050)) in
      elim (dec_lt (size w) 1103) [
        | yes h ↦ absurd (not-le_of_lt (lt_of_lt_of_le (size-lt w) (pow_mono {i = size w} {j = 1102} (omega arith))) (mul-le-mul_right (2 ^ 1050) lo))
        | no f ↦ omega arith
      ]

  in_units : (m : ℕ) (e : ℤ) → m * up e * 2 ^ 1074 ≡ q * 2 ^ 1050 * down e → to_bits binary64 (fin false m e) ≡ 1050 * 2 ^ 52 + q
  unfolding to_bits
  in_units m e h =
      let n = m * up e * 2 ^ 1074 / down e in
      let i : n ≡ q * 2 ^ 1050 = div-eq_of_eq-mul_left (down_pos e) h in
      ap (λ (x : ℕ). 0 + (size x - 53) * 2 ^ 52 + x / 2 ^ (size x - 53)) i
      ∙ ap (λ (s : ℕ). 0 + (s - 53) * 2 ^ 52 + q * 2 ^ 1050 / 2 ^ (s - 53)) w_size
      ∙ ap (λ (x : ℕ). 1050 * 2 ^ 52 + x) (mul-div_cancel q (pow_pos 1050))

  value_bits : (y : Float) (num den : ℕ) → 0 < den → HasValue y false num den → num * 2 ^ 1074 ≡ q * 2 ^ 1050 * den → to_bits binary64 y ≡ 1050 * 2 ^ 52 + q
  value_bits nan num den D v h = absurd v
  value_bits (inf s) num den D v h = absurd v
  value_bits (fin true m e) num den D v h = differ v.0
  value_bits (fin false m e) num den D v h =
      in_units m e
      (eq_of_mul-eq-mul_right den D (m * up e * 2 ^ 1074) (q * 2 ^ 1050 * down e)
      (mul_right_comm (m * up e) (2 ^ 1074) den ∙ ap (λ (x : ℕ). x * 2 ^ 1074) v.1 ∙ mul_right_comm num (down e) (2 ^ 1074) ∙ ap (λ (x : ℕ). x * down e) h ∙ mul_right_comm (q * 2 ^ 1050) den (down e)))

above_24 : (b k : ℕ) → b ≡ 1050 * 2 ^ 52 + (2 ^ 52 + k) → k ≤ 255 * 2 ^ 24 → b / 2 ^ 24 % 256 ≡ k / 2 ^ 24
above_24 b k e h = omega arith

-- 2 ^ 28
abbrev pub base : Float
base = of_bits binary64 0x41b0_0000_0000_0000

pub record Laid (x : Float) : Type 0 where
  pub sum_number : T (not (is_nan (add binary64 x base)))
  pub cut_is : to_bits binary64 (add binary64 x base) / 2 ^ 24 % 256 ≡ cut_of x 255

value_number : (y : Float) (a c : ℕ) → HasValue y false a c → T (not (is_nan y))
unfolding is_nan
value_number nan a c v = absurd v
value_number (inf s) a c v = tt
value_number (fin s m e) a c v = tt

-- ---- the number m * 2 ^ e
module _ (m : ℕ) (e : ℤ) (fit : T (fits binary32 (fin false m e))) (lo : down e ≤ m * up e * 2) (hi : m * up e ≤ 255 * down e) where
  abbrev n : ℕ
  n = wholes (fin false m e)

  held : m * up e * 2 ^ 149 ≡ n * down e
  held = exact false m e fit

  digits : (k : ℕ) × (n ≡ k * 2 ^ 125)
  digits =
      multiple n 125 (grid (fin false m e) fit)
      (le_of_mul-le-mul_right {m = 2 ^ 148} {n = n} {k = down e}
      (le_trans (le_of_eq (mul_comm (2 ^ 148) (down e))) (le_trans (mul-le-mul_right (2 ^ 148) lo) (le_of_eq (mul_assoc (m * up e) 2 (2 ^ 148) ∙ held)))) (down_pos e))

  abbrev k : ℕ
  k = digits.0

  in_24 : m * up e * 2 ^ 24 ≡ k * down e
  in_24 =
      eq_of_mul-eq-mul_right (2 ^ 125) (pow_pos 125) (m * up e * 2 ^ 24) (k * down e)
      (mul_assoc (m * up e) (2 ^ 24) (2 ^ 125) ∙ held ∙ ap (λ (x : ℕ). x * down e) digits.1 ∙ mul_right_comm k (2 ^ 125) (down e))

  small : k ≤ 255 * 2 ^ 24
  small = le_of_mul-le-mul_right {m = k} {n = 255 * 2 ^ 24} {k = down e} (omega (arith, in_24)) (down_pos e)

  cut_24 : cut_of (fin false m e) 255 ≡ k / 2 ^ 24
  cut_24 =
      cut_value (fin false m e) n 255 (refl, held)
      ∙ ap (λ (x : ℕ). min (x / 2 ^ 149) 255) digits.1
      ∙ ap (λ (x : ℕ). min x 255) (mul-div-mul_right {m = 2 ^ 125} k (2 ^ 24) (pow_pos 125))
      ∙ under k small
    where
      under : (x : ℕ) → x ≤ 255 * 2 ^ 24 → min (x / 2 ^ 24) 255 ≡ x / 2 ^ 24
      under x h = omega arith

  -- the sum, as `add` writes it
  abbrev num : ℕ
  num = m * up e * 1 + 2 ^ 28 * down e

  abbrev den : ℕ
  den = down e * 1

  abbrev q : ℕ
  q = 2 ^ 52 + k

  D : 0 < den
  D = omega (arith, down_pos e)

  upper : q < 2 ^ 53
  upper = omega (arith, small)

  sum_24 : num * 2 ^ 1074 ≡ q * 2 ^ 1050 * den
  sum_24 =
      let f : num * 2 ^ 24 ≡ q * den = omega (arith, in_24, mul-one (m * up e), mul-one (down e), add-mul (2 ^ 52) k (down e), ap (λ (x : ℕ). q * x) (mul-one (down e))) in
      sym (mul_assoc num (2 ^ 24) (2 ^ 1050)) ∙ ap (λ (x : ℕ). x * 2 ^ 1050) f ∙ mul_right_comm q den (2 ^ 1050)

  value_24 : HasValue (add binary64 (fin false m e) base) false num den
  unfolding add of_bits
  value_24 =
      round_exact binary64 false num den q 1050 D upper
      (lt_of_lt_of_le (mul-lt-mul_of_pos_right upper (pow_pos 1050)) (pow_mono {i = 1103} {j = 2098} (omega arith))) sum_24

  laid_fin : Laid (fin false m e)
  laid_fin =
      let y = add binary64 (fin false m e) base in
      let b = value_bits q (omega arith) upper y num den D value_24 sum_24 in
      record {
        sum_number = value_number y num den value_24;
        cut_is = above_24 (to_bits binary64 y) k b small ∙ sym cut_24;
      }

pub laid : (x : Float) → T (fits binary32 x) → T (le half x) → T (le x most) → T (not (is_nan x)) × Laid x
unfolding is_nan of_bits
laid x t l h = go x t (between half x most tt tt l h) l h
  where
    go : (x : Float) → T (fits binary32 x) → T (positive x) → T (le half x) → T (le x most) → T (not (is_nan x)) × Laid x
    go nan t p l h = absurd p
    go (inf s) t p l h = absurd p
    go (fin true m e) t p l h = absurd p
    go (fin false m e) t p l h =
        (tt, laid_fin m e t (omega (arith, le→cross half (fin false m e) tt p l)) (omega (arith, le→cross (fin false m e) most p tt h)))

-- Integers to floats are rounded once. Floats to integers, in units of 2 ^ -149: floor, ceiling and the cut to 0 .. last are the whole numbers that they should be, the ends saturate, and NaN gives 0.
-- Assumes nothing.
use mathlib.Core.Path.{◌≡◌, refl, ap, ◌∙◌}
use mathlib.Core.Bool.{Bool, true, false}
use Prim.Native.Nat.{ℕ, zero, suc, ◌+◌, ◌-◌, ◌*◌, ◌/◌, ◌^◌, ◌≤◌, ◌<◌, min}
use native.Mathlib.Nat.{le_trans, le-add_right, add-mul, one-mul, mul_assoc, mul_comm, mul-pos, div-mul-le_self, lt-div-mul-add, div-eq_of_lt-le, le-div_iff_mul-le}
use native.Mathlib.Omega.{arith}
use lib.Dec.{T}
use lib.IntN.{ℤ, pos, negsuc, neg_ℤ}
use lib.Pow.{pow_pos}
use lib.Ieee.{Float, nan, inf, fin, Format, binary32, up, down, round, div, of_int, of_bits, fits}
use lib.Ieee.Back.{round_whole}
use lib.Ieee.Exact.{HasValue}
use lib.Ieee.Fits.{down_pos}
use lib.Ieee.Scale.{round_same}
use Rattle.ieee.specs.Units.{wholes, units_down, units_up}
use Rattle.ieee.specs.Casts.{cut_of, cut_up_of, floor_of, ceil_of}
use Rattle.ieee.specs.Number.{unit_of}
use Rattle.ieee.proofs.Compare.{differ}
use Rattle.ieee.proofs.Values.{exact}
use Rattle.operations.specs.Operations.{rounded}
use Rattle.operations.specs.Whole.{Down, Up}
use Rattle.operations.proofs.Operations.{round_zero, with_sign}

-- ---- integers to floats
pub of_int_exact : (f : Format) (z : ℤ) → of_int f z ≡ rounded f false z 1
unfolding of_int
of_int_exact f (pos zero) = round_zero f false 1 (omega arith)
of_int_exact f (pos (suc n)) = refl
of_int_exact f (negsuc n) = refl

-- Rust's `c as f32 / 255.0`: the cast loses nothing, so it is c / 255, rounded once
quotient : (x : Float) (c : ℕ) → HasValue x false c 1 → div binary32 x (of_bits binary32 0x437f_0000) ≡ round binary32 false c 255
unfolding div of_bits
quotient nan c h = absurd h
quotient (inf s) c h = absurd h
quotient (fin true m e) c h = differ h.0
quotient (fin false m e) c h =
    round_same binary32 false (m * up e * 1) (255 * down e) c 255 (mul-pos (omega arith) (down_pos e)) (omega arith)
    (ap (λ (x : ℕ). x * 255) h.1 ∙ mul_assoc c (down e) 255 ∙ ap (λ (x : ℕ). c * x) (mul_comm (down e) 255))

pub unit_exact : (c : ℕ) → c ≤ 2 ^ 24 → unit_of c ≡ rounded binary32 false (pos c) 255
unfolding of_int
unit_exact c h = quotient (round binary32 false c 1) c (round_whole binary32 false c h) ∙ with_sign binary32 false false c 255 (omega arith) (λ _. refl)

-- ---- `wholes x` units of 2 ^ -149 are the size of x, for every x of binary32
pub size_exact : (s : Bool) (m : ℕ) (e : ℤ) → T (fits binary32 (fin s m e)) → HasValue (fin s m e) s (wholes (fin s m e)) (2 ^ 149)
size_exact s m e t = (refl, exact s m e t)

-- ---- n units of 1 / p, brought down and up to a whole number
module _ (n p : ℕ) (P : 0 < p) where
  next : (z : ℕ) → (z + 1) * p ≡ z * p + p
  next z = add-mul z 1 p ∙ ap (λ (x : ℕ). z * p + x) (one-mul p)

  abbrev high : ℕ
  high = (n + (p - 1)) / p

  below_next : n < (n / p + 1) * p
  below_next = omega (arith, next (n / p), lt-div-mul-add {a = n} P)

  down_only : (z : ℕ) → z * p ≤ n → n < (z + 1) * p → n / p ≡ z
  down_only z l h = div-eq_of_lt-le p l (omega (arith, next z))

  up_low : high * p < n + p
  up_low = omega (arith, div-mul-le_self (n + (p - 1)) p)

  up_high : n ≤ high * p
  up_high = omega (arith, lt-div-mul-add {a = n + (p - 1)} P)

  up_only : (z : ℕ) → z * p < n + p → n ≤ z * p → high ≡ z
  up_only z l h = div-eq_of_lt-le p (omega arith) (omega (arith, next z))

  down_from : (k : ℕ) → k * p ≤ n → k ≤ n / p
  down_from k h = (le-div_iff_mul-le P).1 h

  up_from : (k : ℕ) → k * p ≤ n → k ≤ high
  up_from k h = (le-div_iff_mul-le P).1 (le_trans h (le-add_right n (p - 1)))

-- ---- there is one such number, for each n: rounded down and rounded up
pub down_is : (n : ℕ) → Down n (units_down n)
down_is n = record { low = div-mul-le_self n (2 ^ 149); high = below_next n (2 ^ 149) (pow_pos 149) }

pub down_once : (n z : ℕ) → Down n z → units_down n ≡ z
down_once n z h = down_only n (2 ^ 149) (pow_pos 149) z h.low h.high

pub up_is : (n : ℕ) → Up n (units_up n)
up_is n = record { low = up_low n (2 ^ 149) (pow_pos 149); high = up_high n (2 ^ 149) (pow_pos 149) }

pub up_once : (n z : ℕ) → Up n z → units_up n ≡ z
up_once n z h = up_only n (2 ^ 149) (pow_pos 149) z h.low h.high

within : (a z last : ℕ) → a ≡ z → z ≤ last → min a last ≡ z
within a z last e h = omega arith

capped : (a last : ℕ) → last ≤ a → min a last ≡ last
capped a last h = omega arith

module _ (n last : ℕ) where
  down_within : (z : ℕ) → Down n z → z ≤ last → min (units_down n) last ≡ z
  down_within z d h = within (units_down n) z last (down_once n z d) h

  up_within : (z : ℕ) → Up n z → z ≤ last → min (units_up n) last ≡ z
  up_within z d h = within (units_up n) z last (up_once n z d) h

  down_capped : last * 2 ^ 149 ≤ n → min (units_down n) last ≡ last
  down_capped h = capped (units_down n) last (down_from n (2 ^ 149) (pow_pos 149) last h)

  up_capped : last * 2 ^ 149 ≤ n → min (units_up n) last ≡ last
  up_capped h = capped (units_up n) last (up_from n (2 ^ 149) (pow_pos 149) last h)

-- ---- Rust's `x.floor() as i32`
module _ (m : ℕ) (e : ℤ) where
  pub floor_finite : (z : ℕ) → Down (wholes (fin false m e)) z → z ≤ 2 ^ 31 - 1 → floor_of (fin false m e) ≡ pos z
  floor_finite z d h = ap pos (down_within (wholes (fin false m e)) (2 ^ 31 - 1) z d h)

  -- a negative number: the next below, so its size is rounded up
  pub floor_negative : (z : ℕ) → Up (wholes (fin true m e)) z → z ≤ 2 ^ 31 → floor_of (fin true m e) ≡ neg_ℤ (pos z)
  floor_negative z d h = ap (λ (n : ℕ). neg_ℤ (pos n)) (up_within (wholes (fin true m e)) (2 ^ 31) z d h)

  pub floor_above : (2 ^ 31 - 1) * 2 ^ 149 ≤ wholes (fin false m e) → floor_of (fin false m e) ≡ pos (2 ^ 31 - 1)
  floor_above h = ap pos (down_capped (wholes (fin false m e)) (2 ^ 31 - 1) h)

  pub floor_below : 2 ^ 31 * 2 ^ 149 ≤ wholes (fin true m e) → floor_of (fin true m e) ≡ neg_ℤ (pos (2 ^ 31))
  floor_below h = ap (λ (n : ℕ). neg_ℤ (pos n)) (up_capped (wholes (fin true m e)) (2 ^ 31) h)

pub floor_infinity : floor_of (inf false) ≡ pos (2 ^ 31 - 1)
floor_infinity = refl

pub floor_minus_infinity : floor_of (inf true) ≡ neg_ℤ (pos (2 ^ 31))
floor_minus_infinity = refl

pub floor_nan : floor_of nan ≡ pos 0
floor_nan = refl

-- ---- Rust's `x.ceil() as i32`
module _ (m : ℕ) (e : ℤ) where
  pub ceil_finite : (z : ℕ) → Up (wholes (fin false m e)) z → z ≤ 2 ^ 31 - 1 → ceil_of (fin false m e) ≡ pos z
  ceil_finite z d h = ap pos (up_within (wholes (fin false m e)) (2 ^ 31 - 1) z d h)

  -- a negative number: the next above, so its size is rounded down
  pub ceil_negative : (z : ℕ) → Down (wholes (fin true m e)) z → z ≤ 2 ^ 31 → ceil_of (fin true m e) ≡ neg_ℤ (pos z)
  ceil_negative z d h = ap (λ (n : ℕ). neg_ℤ (pos n)) (down_within (wholes (fin true m e)) (2 ^ 31) z d h)

  pub ceil_above : (2 ^ 31 - 1) * 2 ^ 149 ≤ wholes (fin false m e) → ceil_of (fin false m e) ≡ pos (2 ^ 31 - 1)
  ceil_above h = ap pos (up_capped (wholes (fin false m e)) (2 ^ 31 - 1) h)

  pub ceil_below : 2 ^ 31 * 2 ^ 149 ≤ wholes (fin true m e) → ceil_of (fin true m e) ≡ neg_ℤ (pos (2 ^ 31))
  ceil_below h = ap (λ (n : ℕ). neg_ℤ (pos n)) (down_capped (wholes (fin true m e)) (2 ^ 31) h)

pub ceil_infinity : ceil_of (inf false) ≡ pos (2 ^ 31 - 1)
ceil_infinity = refl

pub ceil_minus_infinity : ceil_of (inf true) ≡ neg_ℤ (pos (2 ^ 31))
ceil_minus_infinity = refl

pub ceil_nan : ceil_of nan ≡ pos 0
ceil_nan = refl

-- ---- to the numbers from 0 to last: rounded down, which is towards zero, and rounded up
module _ (m : ℕ) (e : ℤ) (last : ℕ) where
  pub cut_finite : (z : ℕ) → Down (wholes (fin false m e)) z → z ≤ last → cut_of (fin false m e) last ≡ z
  cut_finite z d h = down_within (wholes (fin false m e)) last z d h

  pub cut_above : last * 2 ^ 149 ≤ wholes (fin false m e) → cut_of (fin false m e) last ≡ last
  cut_above h = down_capped (wholes (fin false m e)) last h

  pub cut_below : cut_of (fin true m e) last ≡ 0
  cut_below = refl

  pub cut_up_finite : (z : ℕ) → Up (wholes (fin false m e)) z → z ≤ last → cut_up_of (fin false m e) last ≡ z
  cut_up_finite z d h = up_within (wholes (fin false m e)) last z d h

  pub cut_up_above : last * 2 ^ 149 ≤ wholes (fin false m e) → cut_up_of (fin false m e) last ≡ last
  cut_up_above h = up_capped (wholes (fin false m e)) last h

  pub cut_up_below : cut_up_of (fin true m e) last ≡ 0
  cut_up_below = refl

pub cut_infinities : (last : ℕ) → (cut_of (inf false) last ≡ last) × (cut_of (inf true) last ≡ 0) × (cut_up_of (inf false) last ≡ last) × (cut_up_of (inf true) last ≡ 0)
cut_infinities last = (refl, refl, refl, refl)

pub cut_nan : (last : ℕ) → (cut_of nan last ≡ 0) × (cut_up_of nan last ≡ 0)
cut_nan last = (refl, refl)

-- The whole part of a number: below 2 ^ 24 from its bit pattern, and when comparisons settle it. Assumes nothing.
use Rattle.std.proofs.Common.{◌≡◌, ℕ, ◌+◌, ◌-◌, ◌*◌, ◌/◌, ◌%◌, ◌^◌, ◌<◌, ◌≤◌, min, Bool, true, false, ℤ, sym, refl, ap, ◌∙◌, le_of_eq, lt_of_lt_of_le, lt_of_le_of_lt, mul-le-mul_left, mul-lt-mul_of_pos_right, le-div_iff_mul-le, zero-mul, mul-one, arith, pow_pos, pow_mono, pow-add, ltb-false}
use native.Mathlib.Nat.{div-eq_of_lt, mul-div-mul_right}
use native.Mathlib.Decide.{dec_lt}
use lib.Ieee.{Float, nan, inf, fin, binary32, up, down, odd, of_bits, lt}
use lib.Ieee.Exact.{HasValue, odd_sign}
use lib.Ieee.Fits.{down_pos}
use Rattle.ieee.proofs.Shape.{pattern, pattern_small, wholes_value}
use Rattle.ieee.specs.Units.{zero32, wholes, units_down}
use Rattle.ieee.specs.Casts.{cut_of}
use Rattle.ieee.proofs.Compare.{differ}
use Rattle.ieee.proofs.Cuts.{whole_part}

-- what has a value in units is cut by them
pub cut_value : (x : Float) (a last : ℕ) → HasValue x false a (2 ^ 149) → cut_of x last ≡ min (a / 2 ^ 149) last
cut_value nan a last h = absurd h
cut_value (inf t) a last h = absurd h
cut_value (fin true m e) a last h = differ h.0
cut_value (fin false m e) a last h = ap (λ (n : ℕ). min (n / 2 ^ 149) last) (wholes_value (fin false m e) false a h)

least : (n : ℕ) → min 0 n ≡ 0
least n = omega arith

-- ---- by the pattern's fields
module _ (k c : ℕ) (lo : 8388608 ≤ c) (hi : c < 16777216) (top : k < 254) where
  by_fields : (last : ℕ) → cut_of (of_bits binary32 (k * 8388608 + c)) last ≡ min (c * 2 ^ k / 2 ^ 149) last
  by_fields last =
      ap (λ (x : Float). cut_of x last) (pattern k c lo hi top) ∙ cut_value (odd 24 false c k 149) (c * 2 ^ k) last (odd_sign 24 false c k 149)

  shifted : k ≤ 149 → c * 2 ^ k / 2 ^ 149 ≡ c / 2 ^ (149 - k)
  shifted h =
      let q : 149 ≡ 149 - k + k = omega arith in
      let e : 2 ^ 149 ≡ 2 ^ (149 - k) * 2 ^ k = ap (λ (n : ℕ). 2 ^ n) q ∙ pow-add 2 (149 - k) k in
      ap (λ (n : ℕ). c * 2 ^ k / n) e ∙ mul-div-mul_right {m = 2 ^ k} c (2 ^ (149 - k)) (pow_pos k)

  fields_cut : k ≤ 149 → (last : ℕ) → cut_of (of_bits binary32 (k * 8388608 + c)) last ≡ min (c / 2 ^ (149 - k)) last
  fields_cut h last = by_fields last ∙ ap (λ (n : ℕ). min n last) (shifted h)

  fields_none : k ≤ 125 → (last : ℕ) → cut_of (of_bits binary32 (k * 8388608 + c)) last ≡ 0
  fields_none h last =
      let l : c * 2 ^ k < 2 ^ 24 * 2 ^ k = mul-lt-mul_of_pos_right hi (pow_pos k) in
      let m : 2 ^ 24 * 2 ^ k ≤ 2 ^ 149 = mul-le-mul_left (2 ^ 24) (pow_mono {i = k} {j = 125} h) in
      by_fields last ∙ ap (λ (n : ℕ). min n last) (div-eq_of_lt (lt_of_lt_of_le l m)) ∙ least last

pub whole_bits : (b last : ℕ) → 0x3f80_0000 ≤ b → b < 0x4b80_0000
    → cut_of (of_bits binary32 b) last ≡ min ((b % 8388608 + 8388608) / 2 ^ (150 - b / 8388608)) last
whole_bits b last lo hi =
    let k = b / 8388608 - 1 in
    let c = b % 8388608 + 8388608 in
    let e : 150 - b / 8388608 ≡ 149 - k = omega arith in
    let g : k * 8388608 + c ≡ b = omega arith in
    let h = fields_cut k c (omega arith) (omega arith) (omega arith) (omega arith) last in
    rw e (rw g at h)

pub under_one : (b last : ℕ) → b < 0x3f80_0000 → 0 ≡ cut_of (of_bits binary32 b) last
under_one b last h = go (dec_lt b 8388608)
  where
    go : Dec (b < 8388608) → 0 ≡ cut_of (of_bits binary32 b) last
    go (yes s) =
        sym (ap (λ (x : Float). cut_of x last) (pattern_small b s) ∙ cut_value (odd 24 false b 0 149) (b * 2 ^ 0) last (odd_sign 24 false b 0 149)
        ∙ ap (λ (n : ℕ). min n last) (div-eq_of_lt (tiny b s)) ∙ least last)
      where
        tiny : (n : ℕ) → n < 8388608 → n * 2 ^ 0 < 2 ^ 149
        tiny n l = lt_of_le_of_lt (le_of_eq (mul-one n)) (lt_of_lt_of_le l (pow_mono {i = 23} {j = 149} (omega arith)))
    go (no s) =
        let k = b / 8388608 - 1 in
        let c = b % 8388608 + 8388608 in
        let g : k * 8388608 + c ≡ b = omega arith in
        sym (rw g at (fields_none k c (omega arith) (omega arith) (omega arith) (omega arith) last))

-- ---- by comparisons
-- what is below its denominator has no whole part
none : (s : Bool) (m : ℕ) (e : ℤ) (last : ℕ) → m * up e < down e → min (units_down (wholes (fin s m e))) last ≡ 0
none s m e last h = ap (λ (n : ℕ). min n last) (whole_part s m e ∙ div-eq_of_lt h) ∙ least last

pub not_above : (x : Float) (last : ℕ) → lt zero32 x ≡ false → 0 ≡ cut_of x last
unfolding lt of_bits
not_above nan last h = refl
not_above (inf true) last h = refl
not_above (inf false) last h = differ h
not_above (fin true m e) last h = refl
not_above (fin false m e) last h =
    sym (none false m e last (omega (arith, ltb-false (0 * down e) (m * up e * 1) h, zero-mul (down e), mul-one (m * up e), down_pos e)))

-- 0.5 and 255.0
abbrev pub half : Float
half = of_bits binary32 0x3f00_0000

abbrev pub most : Float
most = of_bits binary32 0x437f_0000

pub under-half : (x : Float) (last : ℕ) → lt half x ≡ false → 0 ≡ cut_of x last
unfolding lt of_bits
under-half nan last h = refl
under-half (inf true) last h = refl
under-half (inf false) last h = differ h
under-half (fin true m e) last h = refl
under-half (fin false m e) last h = sym (none false m e last (omega (arith, ltb-false (1 * down e) (m * up e * 2) h, down_pos e)))

-- the infinity included
pub from_255 : (x : Float) → lt half x ≡ true → lt x most ≡ false → 255 ≡ cut_of x 255
unfolding lt of_bits
from_255 nan p h = differ (sym p)
from_255 (inf true) p h = differ (sym p)
from_255 (inf false) p h = refl
from_255 (fin true m e) p h = differ (sym p)
from_255 (fin false m e) p h =
    let g : 255 ≤ m * up e / down e = (le-div_iff_mul-le (down_pos e)).1 (omega (arith, ltb-false (m * up e * 1) (255 * down e) h)) in
    capped (m * up e / down e) g ∙ ap (λ (n : ℕ). min n 255) (sym (whole_part false m e))
  where
    capped : (n : ℕ) → 255 ≤ n → 255 ≡ min n 255
    capped n h = omega arith

-- A value's whole part, by its units and by the logic's fraction m * up e / down e. Assumes nothing.
use Rattle.std.proofs.Common.{◌≡◌, ℕ, ◌+◌, ◌-◌, ◌*◌, ◌/◌, ◌^◌, ◌<◌, ◌≤◌, min, Bool, true, false, cond, ℤ, sym, refl, ap, ◌∙◌, le-div_iff_mul-le, arith, pow_pos, ltb-false}
use native.Mathlib.Nat.{div-div-eq-div-mul, mul-div-mul_right}
use lib.Ieee.{Float, nan, inf, fin, binary32, up, down, to_unsigned, lt, of_bits, neg}
use lib.Ieee.Fits.{down_pos}
use Rattle.ieee.specs.Units.{wholes}
use Rattle.ieee.specs.Units.{units_down, units_up}
use Rattle.ieee.specs.Casts.{cut_of, cut_up_of}
use Rattle.ieee.proofs.Compare.{differ}

pub whole_part : (s : Bool) (m : ℕ) (e : ℤ) → units_down (wholes (fin s m e)) ≡ m * up e / down e
unfolding wholes
whole_part s m e = div-div-eq-div-mul (m * up e * 2 ^ 149) (down e) (2 ^ 149) ∙ mul-div-mul_right {m = 2 ^ 149} (m * up e) (down e) (pow_pos 149)

-- ---- `cut_of`, by Rust's cast to a u64
cut_min : (s : Bool) (a last : ℕ) → last < 2 ^ 32 → cond s 0 (min a last) ≡ min (cond s 0 (min a (2 ^ 64 - 1))) last
cut_min true a last h = omega arith
cut_min false a last h = omega arith

pub cut_is : (x : Float) (last : ℕ) → last < 2 ^ 32 → cut_of x last ≡ min (to_unsigned 64 x) last
unfolding to_unsigned
cut_is nan last h = omega arith
cut_is (inf true) last h = omega arith
cut_is (inf false) last h = omega arith
cut_is (fin s m e) last h = ap (λ (a : ℕ). cond s 0 (min a last)) (whole_part s m e) ∙ cut_min s (m * up e / down e) last h

min_le : (a last : ℕ) → min a last ≤ last
min_le a last = omega arith

pub cut_le : (x : Float) (last : ℕ) → cut_of x last ≤ last
cut_le nan last = omega arith
cut_le (inf true) last = omega arith
cut_le (inf false) last = omega arith
cut_le (fin true m e) last = omega arith
cut_le (fin false m e) last = min_le (units_down (wholes (fin false m e))) last

pub cut_up_le : (x : Float) (last : ℕ) → cut_up_of x last ≤ last
cut_up_le nan last = omega arith
cut_up_le (inf true) last = omega arith
cut_up_le (inf false) last = omega arith
cut_up_le (fin true m e) last = omega arith
cut_up_le (fin false m e) last = min_le (units_up (wholes (fin false m e))) last

-- ---- past the ends
abbrev pub minus_one : Float
minus_one = neg (of_bits binary32 0x3f80_0000)

-- not above -1: 0
pub cut_under : (x : Float) (last : ℕ) → lt minus_one x ≡ false → 0 ≡ cut_of x last
unfolding lt of_bits neg
cut_under nan last h = refl
cut_under (inf true) last h = refl
cut_under (inf false) last h = differ h
cut_under (fin true m e) last h = refl
cut_under (fin false m e) last h = absurd (omega (arith, ltb-false 0 (1 * down e + m * up e * 1) h, down_pos e))

capped : (a last : ℕ) → last < 2 ^ 32 → 18446744073709551616 ≤ a → last ≡ min a last
capped a last l g = omega arith

-- above -1 and not below 2 ^ 64: the last
pub cut_over : (x : Float) (last : ℕ) → last < 2 ^ 32 → lt minus_one x ≡ true → lt x (of_bits binary32 0x5f80_0000) ≡ false → last ≡ cut_of x last
unfolding lt of_bits neg
cut_over nan last l h k = differ (sym h)
cut_over (inf true) last l h k = differ k
cut_over (inf false) last l h k = refl
cut_over (fin true m e) last l h k = absurd (omega (arith, ltb-false 0 (m * up e * 1 + 18446744073709551616 * down e) k, down_pos e))
cut_over (fin false m e) last l h k =
    let g : 18446744073709551616 ≤ m * up e / down e = (le-div_iff_mul-le (down_pos e)).1 (omega (arith, ltb-false (m * up e * 1) (18446744073709551616 * down e) k)) in
    capped (m * up e / down e) last l g ∙ ap (λ (a : ℕ). min a last) (sym (whole_part false m e))

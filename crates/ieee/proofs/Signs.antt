-- Rounding what is below 0 by rounding its magnitude the other way. Assumes nothing.
use Rattle.std.proofs.Common.{◌≡◌, ℕ, ◌+◌, ◌-◌, ◌*◌, ◌/◌, ◌^◌, min, true, false, ℤ, pos, neg_ℤ, sym, refl, ap, ◌∙◌, zero-mul, arith, ltb-false, ltb-true}
use native.Mathlib.Nat.{zero-div}
use lib.Ieee.{Float, nan, inf, fin, up, down, lt, neg, of_bits}
use Rattle.ieee.specs.Units.{zero32, wholes}
use Rattle.ieee.specs.Units.{units_down, units_up}
use Rattle.ieee.specs.Casts.{cut_of, cut_up_of, floor_of, ceil_of}
use Rattle.ieee.proofs.Compare.{differ}

-- no number is below 0 with its sign clear
not_under : {A : Type 0} (m : ℕ) (e : ℤ) → lt (fin false m e) zero32 ≡ true → A
unfolding lt of_bits
not_under m e h = absurd (omega (arith, ltb-true (m * up e * 1) (0 * down e) h, zero-mul (down e)))

-- with it set and not below 0, it is 0
no_units : (m : ℕ) (e : ℤ) → lt (fin true m e) zero32 ≡ false → 0 ≡ wholes (fin true m e)
unfolding lt of_bits wholes
no_units m e h =
    let z : m * up e ≡ 0 = omega (arith, ltb-false 0 (m * up e * 1 + 0 * down e) h) in
    sym (ap (λ (a : ℕ). a * 2 ^ 149 / down e) z ∙ ap (λ (a : ℕ). a / down e) (zero-mul (2 ^ 149)) ∙ zero-div (down e))

pub floor_under : (x : Float) → lt x zero32 ≡ true → neg_ℤ (pos (cut_up_of (neg x) (2 ^ 31))) ≡ floor_of x
unfolding lt of_bits neg wholes
floor_under nan h = differ (sym h)
floor_under (inf true) h = refl
floor_under (inf false) h = differ (sym h)
floor_under (fin true m e) h = refl
floor_under (fin false m e) h = not_under m e h

pub ceil_under : (x : Float) → lt x zero32 ≡ true → neg_ℤ (pos (cut_of (neg x) (2 ^ 31))) ≡ ceil_of x
unfolding lt of_bits neg wholes
ceil_under nan h = differ (sym h)
ceil_under (inf true) h = refl
ceil_under (inf false) h = differ (sym h)
ceil_under (fin true m e) h = refl
ceil_under (fin false m e) h = not_under m e h

pub floor_over : (x : Float) → lt x zero32 ≡ false → pos (cut_of x (2 ^ 31 - 1)) ≡ floor_of x
unfolding lt of_bits
floor_over nan h = refl
floor_over (inf true) h = differ h
floor_over (inf false) h = refl
floor_over (fin true m e) h = ap (λ (u : ℕ). neg_ℤ (pos (min (units_up u) (2 ^ 31)))) (no_units m e h)
floor_over (fin false m e) h = refl

pub ceil_over : (x : Float) → lt x zero32 ≡ false → pos (cut_up_of x (2 ^ 31 - 1)) ≡ ceil_of x
unfolding lt of_bits
ceil_over nan h = refl
ceil_over (inf true) h = differ h
ceil_over (inf false) h = refl
ceil_over (fin true m e) h = ap (λ (u : ℕ). neg_ℤ (pos (min (units_down u) (2 ^ 31)))) (no_units m e h)
ceil_over (fin false m e) h = refl

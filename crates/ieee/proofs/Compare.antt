-- What comparisons of floats say of them. Assumes nothing.
use Rattle.std.proofs.Common.{◌≡◌, ℕ, ◌*◌, ◌%◌, ◌<◌, ◌∙◌, true, false, not, T, eqb, sym, refl, arith, lt-ltb}
use lib.Dec.{eqb_refl}
use lib.Ieee.{Float, nan, inf, fin, binary32, up, down, lt, ne, div, is_nan, of_bits}
use lib.Ieee.Bits.{is_true, nan_bits_is, nan_bits_above}
use Rattle.ieee.specs.Units.{zero32}

pub differ : {A : Type 0} → true ≡ false → A
differ h = let z : ◌≡◌ {A = ℕ} 0 1 = cc in absurd (omega arith)

-- what is above something is no NaN
pub number : (y x : Float) → lt y x ≡ true → T (not (is_nan x))
unfolding lt is_nan
number nan nan h = differ (sym h)
number (inf s) nan h = differ (sym h)
number (fin s m e) nan h = differ (sym h)
number y (inf s) h = tt
number y (fin s m e) h = tt

-- only NaN differs from itself
pub differs : (x : Float) → ne x x ≡ is_nan x
unfolding ne is_nan
differs nan = refl
differs (inf true) = refl
differs (inf false) = refl
differs (fin true m e) = simp (is_true (eqb (m * up e * down e) (m * up e * down e)) (eqb_refl (m * up e * down e)))
differs (fin false m e) = simp (is_true (eqb (m * up e * down e) (m * up e * down e)) (eqb_refl (m * up e * down e)))

-- the NaN that the code writes
pub zero_by_zero : div binary32 zero32 zero32 ≡ nan
unfolding div of_bits
zero_by_zero = refl

only_nan : (x : Float) → is_nan x ≡ true → nan ≡ x
unfolding is_nan
only_nan nan h = refl
only_nan (inf s) h = cc
only_nan (fin s m e) h = cc

-- above the infinity's pattern, once the sign is cut off, lie the NaNs'
pub above_is_nan : (b : ℕ) → 0x7f80_0000 < b % 0x8000_0000 → div binary32 zero32 zero32 ≡ of_bits binary32 b
above_is_nan b h = zero_by_zero ∙ only_nan (of_bits binary32 b) (sym (nan_bits_is binary32 b) ∙ nan_bits_above binary32 b ∙ lt-ltb _ _ h)

-- The root when it is no matter of rounding; and that rounding it never meets a tie. Assumes nothing.
use Rattle.std.proofs.Common.{◌≡◌, ℕ, suc, ◌+◌, ◌*◌, ◌^◌, ◌<◌, Bool, true, false, T, ℤ, refl, arith}
use native.Mathlib.Decide.{dec_lt}
use lib.Ieee.{Float, nan, inf, fin, binary32, fits}
use Rattle.ieee.specs.Units.{wholes}
use Rattle.ieee.specs.Root.{root}
use Rattle.ieee.proofs.Nearest.{double_square, root-nearest}

-- ---- by kind
pub root_nan : root nan ≡ nan
unfolding root
root_nan = refl

pub root_infinity : root (inf false) ≡ inf false
unfolding root
root_infinity = refl

pub root-minus_infinity : root (inf true) ≡ nan
unfolding root
root-minus_infinity = refl

-- each zero is its own root
pub root-zero : (s : Bool) (e : ℤ) → root (fin s 0 e) ≡ fin s 0 e
unfolding root
root-zero s e = refl

pub root_negative : (m : ℕ) (e : ℤ) → root (fin true (suc m) e) ≡ nan
unfolding root
root_negative m e = refl

-- ---- no ties
-- no whole number's root lies half-way between two whole numbers: (2 s + 1) ^ 2 is odd
pub no_half : (a s : ℕ) → (s + (s + 1)) * (s + (s + 1)) ≡ 4 * a → ⊥
no_half a s h = omega (arith, double_square s)

apart : (c y v : ℕ) → (c < y → v < (c + y) * (c + y)) → (y < c → (c + y) * (c + y) < v) → (c ≡ y → ⊥) → (c + y) * (c + y) ≡ v → ⊥
apart c y v p q n h =
    elim (dec_lt c y) [ yes l ↦ omega (arith, p l, h) | no f ↦ elim (dec_lt y c) [ yes l ↦ omega (arith, q l, h) | no g ↦ n (omega arith) ] ]

-- so the root of a number x above 0, subnormal or not, never lies half-way between `root x` and another value of the format
pub no_tie : (m : ℕ) (e : ℤ) → T (fits binary32 (fin false (suc m) e)) → (y : Float) → T (fits binary32 y)
    → let x = fin false (suc m) e in (wholes (root x) ≡ wholes y → ⊥) → (wholes (root x) + wholes y) * (wholes (root x) + wholes y) ≡ 4 * (wholes x * 2 ^ 149) → ⊥
no_tie m e t y h n =
    let x = fin false (suc m) e in
    let r = root-nearest m e t y h in
    apart (wholes (root x)) (wholes y) (4 * (wholes x * 2 ^ 149)) r.above r.under n

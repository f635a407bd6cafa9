-- What the theorems ask of a result: its sign, and whether two whole numbers are equal. Definitions only.
use Rattle.std.specs.Prelude.{◌≡◌, Bool, false, eqb, ℤ, pos, negsuc, Float}
use Rattle.std.specs.Float.{nan, inf, fin}

-- x is no NaN, and its sign is s: true is negative, as in -0
abbrev pub SignIs : Float → Bool → Type 0
SignIs nan s = ⊥
SignIs (inf t) s = t ≡ s
SignIs (fin t m e) s = t ≡ s

-- a = b, beside `lt_z` and `le_z` of Rattle.std.specs.Int.Signed
abbrev pub eq_z : ℤ → ℤ → Bool
eq_z (pos a) (pos b) = eqb a b
eq_z (pos a) (negsuc b) = false
eq_z (negsuc a) (pos b) = false
eq_z (negsuc a) (negsuc b) = eqb a b

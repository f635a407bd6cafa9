-- What an operation is to round: the exact sum, difference, product or quotient as a fraction (IEEE 754-2019, 5.4.1), and the sign of a zero result (6.3). Definitions only.
use Rattle.std.specs.Prelude.{ℕ, zero, suc, ◌*◌, Bool, true, false, cond, ℤ, pos, negsuc, neg_ℤ, ◌*ℤ◌, Float}
use Rattle.std.specs.Float.{fin, Format}
use Rattle.std.specs.Float.Ieee.{up, down, round}

-- n with a sign
abbrev pub signed : Bool → ℕ → ℤ
signed s n = cond s (neg_ℤ (pos n)) (pos n)

-- a finite value m * 2 ^ e with the sign s is numer s m e / down e
abbrev pub numer : Bool → ℕ → ℤ → ℤ
numer s m e = signed s (m * up e)

-- two values over the product of their denominators: this is the first one's numerator, and d is the other's exponent
abbrev pub over : Bool → ℕ → ℤ → ℤ → ℤ
over s m e d = numer s m e *ℤ pos (down d)

-- z / den rounded, and a zero with the sign s
abbrev pub rounded : Format → Bool → ℤ → ℕ → Float
rounded f s (pos zero) den = fin s 0 (pos 0)
rounded f s (pos (suc n)) den = round f false (suc n) den
rounded f s (negsuc n) den = round f true (suc n) den

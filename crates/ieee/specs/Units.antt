-- Floats over whole numbers (rule 7.5): a finite float is its multiple of 2^-149. Definitions only.
use Rattle.std.specs.Prelude.{ℕ, ◌+◌, ◌-◌, ◌*◌, ◌/◌, ◌^◌, from_bits, Float}
use Rattle.std.specs.Float.{nan, inf, fin, binary32}
use Rattle.std.specs.Float.Ieee.{up, down}

-- the magnitude of a finite float, in units of 2 ^ -149: a binary32's is this multiple exactly (`exact`, proofs/Values.antt)
unfoldable pub wholes : Float → ℕ
wholes nan = 0
wholes (inf s) = 0
wholes (fin s m e) = m * up e * 2 ^ 149 / down e

-- n units rounded down, and up, to a whole number: 1.0 is 2 ^ 149 units
abbrev pub units_down : ℕ → ℕ
units_down n = n / 2 ^ 149

abbrev pub units_up : ℕ → ℕ
units_up n = (n + (2 ^ 149 - 1)) / 2 ^ 149

-- 0.0 and 1.0, by their bit patterns, as the compiled code has a literal
abbrev pub zero32 : Float
zero32 = from_bits binary32 0

abbrev pub one32 : Float
one32 = from_bits binary32 0x3f80_0000

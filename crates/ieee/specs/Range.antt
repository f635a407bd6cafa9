-- Floats brought to a range. Definitions only.
use Rattle.std.specs.Prelude.{Bool, false, cond, from_bits, Float}
use Rattle.std.specs.Float.{nan, inf, fin, binary32}
use Rattle.std.specs.Float.Ieee.{lt, le}
use Rattle.ieee.specs.Units.{zero32, one32}

-- rule 7.7, Rust's `x.clamp(0.0, 1.0)`: a NaN stays, since neither comparison holds of it, and so does -0.0
abbrev pub clamp_of : Float → Float
clamp_of x = cond (lt x zero32) zero32 (cond (lt one32 x) one32 x)

-- rule 7.7, Rust's `x.max(0.0)`, with +0.0 if both are zeros
abbrev pub max_of : Float → Float
max_of x = cond (lt zero32 x) x zero32

-- Rust's `x.abs()`: the sign is dropped, also that of a zero or an infinity
abbrev pub abs_of : Float → Float
abs_of nan = nan
abs_of (inf s) = inf false
abs_of (fin s m e) = fin false m e

-- Rust's `x.abs() <= f32::EPSILON`: at most 2 ^ -23 in size
abbrev pub tiny_of : Float → Bool
tiny_of x = le (abs_of x) (from_bits binary32 0x3400_0000)

-- Integers as floats. Definitions only.
use Rattle.std.specs.Prelude.{ℕ, pos, from_bits, Float}
use Rattle.std.specs.Float.{binary32}
use Rattle.std.specs.Float.Ieee.{of_int, div}

-- Rust's `c as f32 / 255.0`, of a byte
abbrev pub unit_of : ℕ → Float
unit_of c = div binary32 (of_int binary32 (pos c)) (from_bits binary32 0x437f_0000)

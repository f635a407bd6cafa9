-- The depths of an empty screen. Assumes nothing.
use Rattle.std.specs.Prelude.{ℕ, List, ℤ, pos, Float, replicate}
use Rattle.std.specs.Float.{binary32}
use Rattle.std.specs.Float.Ieee.{of_bits}

-- rule 1.8: the integer depths
abbrev pub far_ints : ℕ → List ℤ
far_ints n = replicate n (pos 2147483647)

-- rule 1.8: the float depths
abbrev pub far_floats : ℕ → List Float
far_floats n = replicate n (of_bits binary32 0x3f80_0000)

-- Rust's iterator sums of f32 (rule 7.2): they start from -0.0, as the library does. Definitions only.
use Rattle.std.specs.Prelude.{ℕ, zero, suc, Float}
use Rattle.std.specs.Float.{binary32}
use Rattle.std.specs.Float.Ieee.{of_bits}
use Rattle.vector.specs.Three.{◌⊕◌}

-- -0.0, by its bit pattern
abbrev pub minus_zero : Float
minus_zero = of_bits binary32 0x8000_0000

-- `(0..n).map(f).sum::<f32>()`: each term is added to the sum of those before it
abbrev pub library_sum : ℕ → (ℕ → Float) → Float
library_sum zero f = minus_zero
library_sum (suc n) f = library_sum n f ⊕ f n

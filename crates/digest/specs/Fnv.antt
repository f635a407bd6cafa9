-- FNV-1a at 64 bits (Fowler, Noll and Vo): a byte is xored in, and the sum multiplied by the prime. Definitions only.
use Rattle.std.specs.Prelude.{ℕ, ◌*◌, ◌/◌, ◌%◌, ◌^◌, List, ℤ, bit_xor, to_bits, Float}
use Rattle.std.specs.Float.{binary32}
use Rattle.std.specs.Int.{w32}
use Rattle.std.specs.List.{fold}
use Rattle.std.proofs.Common.{of_z}

abbrev pub mixed : ℕ → ℕ → ℕ
mixed h b = (bit_xor h b * 1099511628211) % 2 ^ 64

-- a word's four bytes, the lowest first
unfoldable pub worded : ℕ → ℕ → ℕ
worded h x = mixed (mixed (mixed (mixed h (x % 256)) (x / 256 % 256)) (x / 65536 % 256)) (x / 16777216)

-- a digest of a list, by what one element does
abbrev pub bytes_from : ℕ → List ℕ → ℕ
bytes_from = fold mixed

abbrev pub words_from : ℕ → List ℕ → ℕ
words_from = fold worded

-- a signed number as its two's complement
abbrev pub ints_from : ℕ → List ℤ → ℕ
ints_from = fold (λ h x. worded h (of_z w32 x))

-- a float as its pattern, 7fc00000 for every NaN
abbrev pub floats_from : ℕ → List Float → ℕ
floats_from = fold (λ h x. worded h (to_bits binary32 x))

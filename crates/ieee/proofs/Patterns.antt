-- A bit pattern and its value: what is read back is what was written. Assumes nothing.
use Rattle.std.proofs.Common.{◌≡◌, ℕ, ◌^◌, ◌<◌, false, T, refl}
use lib.Ieee.{Float, nan, binary32, of_bits, to_bits, is_nan, fits}
use lib.Ieee.Bits.{of_bits-to_bits, to_bits-of_bits}

-- a value's pattern stands for the value, NaN included
pub value_back : (x : Float) → T (fits binary32 x) → of_bits binary32 (to_bits binary32 x) ≡ x
value_back x h = of_bits-to_bits binary32 x h

-- a word is its value's pattern, unless it is a NaN's: those become 7fc00000
pub word_back : (w : ℕ) → w < 2 ^ 32 → is_nan (of_bits binary32 w) ≡ false → to_bits binary32 (of_bits binary32 w) ≡ w
word_back w h k = to_bits-of_bits binary32 w h (rw k tt)

pub nan_word : to_bits binary32 nan ≡ 0x7fc0_0000
unfolding to_bits
nan_word = refl

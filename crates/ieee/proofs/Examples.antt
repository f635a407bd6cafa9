-- Worked numbers, by computation from the definitions. Rule 9.13 is `root-of-two` and `root-of_least`. Assumes nothing.
use Rattle.std.proofs.Common.{◌≡◌, ℕ, pos, negsuc, refl}
use lib.Ieee.{Float, nan, binary32, of_bits, add, mul, lt}
use Rattle.ieee.specs.Units.{wholes, zero32}
use Rattle.ieee.specs.Range.{clamp_of, max_of}
use Rattle.ieee.specs.Casts.{floor_of, ceil_of, byte_of, unit_byte_of}
use Rattle.ieee.specs.Root.{root}

-- the value of a pattern
abbrev v : ℕ → Float
v n = of_bits binary32 n

-- ---- roots
pub root-of-two : root (v 0x4000_0000) ≡ v 0x3fb5_04f3
unfolding root of_bits
root-of-two = refl

-- the root of 2 ^ -149
pub root-of_least : root (v 1) ≡ v 0x1a35_04f3
unfolding root of_bits
root-of_least = refl

-- the roots of the largest subnormal, the largest number, -0.0 and -1
pub roots :
    (root (v 0x007f_ffff) ≡ v 0x1fff_ffff)
    × (root (v 0x7f7f_ffff) ≡ v 0x5f7f_ffff)
    × (root (v 0x8000_0000) ≡ v 0x8000_0000)
    × (root (v 0xbf80_0000) ≡ nan)
unfolding root of_bits
roots = (refl, refl, refl, refl)

-- ---- to whole numbers

-- floor of -0.0, -0.5, -2 ^ -149, 2 ^ 31, -2 ^ 31, -∞ and NaN
pub floors :
    (floor_of (v 0x8000_0000) ≡ pos 0)
    × (floor_of (v 0xbf00_0000) ≡ negsuc 0)
    × (floor_of (v 0x8000_0001) ≡ negsuc 0)
    × (floor_of (v 0x4f00_0000) ≡ pos 2147483647)
    × (floor_of (v 0xcf00_0000) ≡ negsuc 2147483647)
    × (floor_of (v 0xff80_0000) ≡ negsuc 2147483647)
    × (floor_of (v 0x7fc0_0000) ≡ pos 0)
unfolding wholes of_bits
floors = (refl, refl, refl, refl, refl, refl, refl)

-- ceiling of -0.5, 0.5, 2 ^ -149, NaN, the largest number and the least
pub ceilings :
    (ceil_of (v 0xbf00_0000) ≡ pos 0)
    × (ceil_of (v 0x3f00_0000) ≡ pos 1)
    × (ceil_of (v 1) ≡ pos 1)
    × (ceil_of (v 0x7fc0_0000) ≡ pos 0)
    × (ceil_of (v 0x7f7f_ffff) ≡ pos 2147483647)
    × (ceil_of (v 0xff7f_ffff) ≡ negsuc 2147483647)
unfolding wholes of_bits
ceilings = (refl, refl, refl, refl, refl, refl)

-- the byte of 255.5, the last number below 255, -1, NaN, 2 ^ -149 and the largest number
pub bytes :
    (byte_of (v 0x437f_8000) ≡ 255)
    × (byte_of (v 0x437e_ffff) ≡ 254)
    × (byte_of (v 0xbf80_0000) ≡ 0)
    × (byte_of (v 0xffc0_0001) ≡ 0)
    × (byte_of (v 1) ≡ 0)
    × (byte_of (v 0x7f7f_ffff) ≡ 255)
unfolding wholes of_bits
bytes = (refl, refl, refl, refl, refl, refl)

-- the byte of the colours 0.5, which is 127.5 + 0.5, and 1
pub unit_bytes : (unit_byte_of (v 0x3f00_0000) ≡ 128) × (unit_byte_of (v 0x3f80_0000) ≡ 255)
unfolding wholes of_bits add mul
unit_bytes = (refl, refl)

-- ---- to a range: clamping keeps NaN and -0.0, and the maximum with 0.0 makes each of them 0.0
pub ranges :
    (clamp_of nan ≡ nan)
    × (clamp_of (v 0x8000_0000) ≡ v 0x8000_0000)
    × (max_of nan ≡ zero32)
    × (max_of (v 0x8000_0000) ≡ zero32)
unfolding lt of_bits
ranges = (refl, refl, refl, refl)

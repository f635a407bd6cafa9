-- Floats to whole numbers (rules 7.5 and 7.6): floor, ceiling and casts. Definitions only.
use Rattle.std.specs.Prelude.{ℕ, ◌-◌, ◌^◌, min, cond, ℤ, pos, neg_ℤ, from_bits, Float}
use Rattle.std.specs.Float.{nan, inf, fin, binary32}
use Rattle.std.specs.Float.Ieee.{of_int, add, mul}
use Rattle.ieee.specs.Units.{wholes, units_down, units_up}

-- x rounded down, and brought to the numbers from 0 to last
abbrev pub cut_of : Float → ℕ → ℕ
cut_of nan last = 0
cut_of (inf s) last = cond s 0 last
cut_of (fin s m e) last = cond s 0 (min (units_down (wholes (fin s m e))) last)

-- x rounded up, and brought to the numbers from 0 to last
abbrev pub cut_up_of : Float → ℕ → ℕ
cut_up_of nan last = 0
cut_up_of (inf s) last = cond s 0 last
cut_up_of (fin s m e) last = cond s 0 (min (units_up (wholes (fin s m e))) last)

-- Rust's `x.floor() as i32`: what is below 0 is rounded up in size, and negated
abbrev pub floor_of : Float → ℤ
floor_of nan = pos 0
floor_of (inf s) = cond s (neg_ℤ (pos (2 ^ 31))) (pos (2 ^ 31 - 1))
floor_of (fin s m e) =
    cond s (neg_ℤ (pos (min (units_up (wholes (fin s m e))) (2 ^ 31)))) (pos (min (units_down (wholes (fin s m e))) (2 ^ 31 - 1)))

-- Rust's `x.ceil() as i32`: what is below 0 is rounded down in size, and negated
abbrev pub ceil_of : Float → ℤ
ceil_of nan = pos 0
ceil_of (inf s) = cond s (neg_ℤ (pos (2 ^ 31))) (pos (2 ^ 31 - 1))
ceil_of (fin s m e) =
    cond s (neg_ℤ (pos (min (units_down (wholes (fin s m e))) (2 ^ 31)))) (pos (min (units_up (wholes (fin s m e))) (2 ^ 31 - 1)))

-- Rust's `x as u8`
abbrev pub byte_of : Float → ℕ
byte_of x = cut_of x 255

-- Rust's `(v * 255.0 + 0.5) as u8`
abbrev pub unit_byte_of : Float → ℕ
unit_byte_of v = byte_of (add binary32 (mul binary32 v (from_bits binary32 0x437f_0000)) (from_bits binary32 0x3f00_0000))

-- rule 5.12, Rust's `(u * side as f32).floor().clamp(0.0, (side - 1) as f32) as usize`, for sides up to 2 ^ 24, as `texel` requires. Those of a texture are at most 1024
abbrev pub texel_of : Float → ℕ → ℕ
texel_of u side = cut_of (mul binary32 u (of_int binary32 (pos side))) (side - 1)

-- The ends of a box of pixels around float corners: signed, as the source has them, and as numbers from 0 on. Definitions only.
use Rattle.std.specs.Prelude.{ℕ, min, max, ℤ, pos, negsuc, Float}
use Rattle.std.proofs.Math.IntN.{suc_ℤ}
use Rattle.ieee.specs.Casts.{floor_of, ceil_of}

-- Rust's `z.max(0) as usize`
abbrev pub nat_of : ℤ → ℕ
nat_of (pos n) = n
nat_of (negsuc n) = 0

-- Rust's `a.min(b)` and `a.max(b)` of an i32
abbrev pub min_z : ℤ → ℤ → ℤ
min_z (pos a) (pos b) = pos (min a b)
min_z (pos a) (negsuc b) = negsuc b
min_z (negsuc a) (pos b) = negsuc a
min_z (negsuc a) (negsuc b) = negsuc (max a b)

abbrev pub max_z : ℤ → ℤ → ℤ
max_z (pos a) (pos b) = pos (max a b)
max_z (pos a) (negsuc b) = pos a
max_z (negsuc a) (pos b) = pos b
max_z (negsuc a) (negsuc b) = negsuc (min a b)

-- the first column or row of a box from x on: x.floor() as i32, and 0 if that is below 0
abbrev pub first_of : Float → ℕ
first_of x = nat_of (floor_of x)

-- the first one past a box up to x: one more than x.ceil() as i32, and 0 if that is below 0
abbrev pub past_of : Float → ℕ
past_of x = nat_of (suc_ℤ (ceil_of x))

-- A box around three corners: the source takes the least and the greatest of signed roundings and then cuts at 0 and at the screen's last column or row.
-- Cutting each corner first gives the same ends, so `first` and `past` serve for one corner. Assumes nothing.
use Rattle.std.proofs.Common.{◌≡◌, ℕ, zero, suc, ◌+◌, min, max, ℤ, pos, negsuc, refl, arith}
use lib.IntN.{suc_ℤ}
use lib.Ieee.{Float}
use Rattle.ieee.specs.Casts.{floor_of, ceil_of}
use Rattle.ieee.specs.Box.{nat_of, min_z, max_z, first_of, past_of}

-- ---- `nat_of` commutes with the least and the greatest
pub least_nat : (a b : ℤ) → nat_of (min_z a b) ≡ min (nat_of a) (nat_of b)
least_nat (pos a) (pos b) = refl
least_nat (pos a) (negsuc b) = omega arith
least_nat (negsuc a) (pos b) = omega arith
least_nat (negsuc a) (negsuc b) = refl

pub most_nat : (a b : ℤ) → nat_of (max_z a b) ≡ max (nat_of a) (nat_of b)
most_nat (pos a) (pos b) = refl
most_nat (pos a) (negsuc b) = omega arith
most_nat (negsuc a) (pos b) = omega arith
most_nat (negsuc a) (negsuc b) = refl

-- ---- and so does the first number past z
abbrev after : ℤ → ℕ
after z = nat_of (suc_ℤ z)

after_none : (n : ℕ) → after (negsuc n) ≡ 0
after_none zero = refl
after_none (suc n) = refl

pub least_after : (a b : ℤ) → after (min_z a b) ≡ min (after a) (after b)
least_after (pos a) (pos b) = omega arith
least_after (pos a) (negsuc b) = omega (arith, after_none b)
least_after (negsuc a) (pos b) = omega (arith, after_none a)
least_after (negsuc a) (negsuc b) = omega (arith, after_none a, after_none b, after_none (max a b))

pub most-after : (a b : ℤ) → after (max_z a b) ≡ max (after a) (after b)
most-after (pos a) (pos b) = omega arith
most-after (pos a) (negsuc b) = omega (arith, after_none b)
most-after (negsuc a) (pos b) = omega (arith, after_none a)
most-after (negsuc a) (negsuc b) = omega (arith, after_none a, after_none b, after_none (min a b))

-- ---- three corners
least_three : (a b c : ℤ) → min (min (nat_of a) (nat_of b)) (nat_of c) ≡ nat_of (min_z (min_z a b) c)
least_three a b c = rw (least_nat (min_z a b) c, least_nat a b)

most-three : (a b c : ℤ) (last : ℕ) → min (max (max (after a) (after b)) (after c)) (last + 1) ≡ after (min_z (max_z (max_z a b) c) (pos last))
most-three a b c last = rw (least_after (max_z (max_z a b) c) (pos last), most-after (max_z a b) c, most-after a b) (omega arith)

-- Rust's `floors.min().max(0) as usize`
pub first_three : (a b c : Float) → min (min (first_of a) (first_of b)) (first_of c) ≡ nat_of (min_z (min_z (floor_of a) (floor_of b)) (floor_of c))
first_three a b c = least_three (floor_of a) (floor_of b) (floor_of c)

-- one more than Rust's `ceils.max().min(last)`, and 0 if that is below 0
pub past_three : (a b c : Float) (last : ℕ)
    → min (max (max (past_of a) (past_of b)) (past_of c)) (last + 1) ≡ nat_of (suc_ℤ (min_z (max_z (max_z (ceil_of a) (ceil_of b)) (ceil_of c)) (pos last)))
past_three a b c last = most-three (ceil_of a) (ceil_of b) (ceil_of c) last

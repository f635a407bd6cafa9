-- Worked numbers of binary32, in units of 2 ^ -149: the ends of its values, where an infinity begins, a tie that goes down and one that goes up. Assumes nothing.
use mathlib.Core.Path.{◌≡◌, refl}
use mathlib.Core.Logic.{◌⊎◌, inl, inr}
use Prim.Native.Nat.{ℕ, ◌*◌, ◌^◌, ◌<◌}
use native.Mathlib.Nat.{lt_irrefl, not-le_of_lt}
use native.Mathlib.Omega.{arith}
use lib.Dec.{lit<}
use lib.Ieee.{binary32, size}
use Rattle.rounding.specs.Rounding.{Held, Rounded, away, overflows_from}
use Rattle.rounding.proofs.Rounding.{grid_rounded, held-under}

-- the smallest subnormal, the largest value, and past it none
pub smallest : Held binary32 1
smallest = record { digits = 1; shift = 0; few = lit< tt; in_range = lit< tt; is = refl }

pub largest : Held binary32 (0xff_ffff * 2 ^ 253)
largest = record { digits = 0xff_ffff; shift = 253; few = lit< tt; in_range = lit< tt; is = refl }

pub past_the_end : Held binary32 (0x100_0000 * 2 ^ 253) → ⊥
past_the_end h = lt_irrefl (0x100_0000 * 2 ^ 253) (held-under binary32 (0x100_0000 * 2 ^ 253) h)

pub infinity_from : overflows_from binary32 ≡ 0x1ff_ffff * 2 ^ 103
infinity_from = refl

-- 2 ^ 24 + 1 goes down and 2 ^ 24 + 3 up: 2 ^ 24 and 2 ^ 24 + 4 are the neighbours with an even last digit
pub tie_down : Rounded binary32 0x100_0001 1 (0x100_0000 * 2 ^ 149)
unfolding size
tie_down = grid_rounded binary32 0x100_0001 1 (lit< tt) (lit< tt)

pub tie_up : Rounded binary32 0x100_0003 1 (0x100_0004 * 2 ^ 149)
unfolding size
tie_up = grid_rounded binary32 0x100_0003 1 (lit< tt) (lit< tt)

-- and neither goes to 2 ^ 24 + 2, whose last digit is odd: away from zero the first would, towards zero the second. By numbers alone, without the laws of `round`
one_not_none : ◌≡◌ {A = ℕ} 1 0 → ⊥
one_not_none e = omega arith

differ : (v w : ℕ) → (v < w) ⊎ (w < v) → v ≡ w → ⊥
differ v w (inl h) e = omega arith
differ v w (inr h) e = omega arith

even-below : Held binary32 (0x100_0000 * 2 ^ 149)
even-below = record { digits = 0x80_0000; shift = 150; few = lit< tt; in_range = lit< tt; is = refl }

even-above : Held binary32 (0x100_0004 * 2 ^ 149)
even-above = record { digits = 0x80_0002; shift = 150; few = lit< tt; in_range = lit< tt; is = refl }

pub tie_not_up : Rounded binary32 0x100_0001 1 (0x100_0002 * 2 ^ 149) → ⊥
unfolding size
tie_not_up r = one_not_none (r.even (0x100_0000 * 2 ^ 149) even-below (differ (0x100_0000 * 2 ^ 149) (0x100_0002 * 2 ^ 149) (inl (lit< tt))) refl)

pub tie_not_down : Rounded binary32 0x100_0003 1 (0x100_0002 * 2 ^ 149) → ⊥
unfolding size
tie_not_down r = one_not_none (r.even (0x100_0004 * 2 ^ 149) even-above (differ (0x100_0004 * 2 ^ 149) (0x100_0002 * 2 ^ 149) (inr (lit< tt))) refl)

-- 2 ^ 24 + 1.5 is not cut to 2 ^ 24: the value above it is nearer. By numbers alone too
odd_between : Held binary32 (0x100_0002 * 2 ^ 149)
odd_between = record { digits = 0x80_0001; shift = 150; few = lit< tt; in_range = lit< tt; is = refl }

pub not_cut : Rounded binary32 0x200_0003 2 (0x100_0000 * 2 ^ 149) → ⊥
not_cut r =
    let nearer : away binary32 0x200_0003 2 (0x100_0002 * 2 ^ 149) < away binary32 0x200_0003 2 (0x100_0000 * 2 ^ 149) = lit< tt in
    not-le_of_lt nearer (r.nearest (0x100_0002 * 2 ^ 149) odd_between)

-- half of the smallest value is a tie too: to zero
pub underflow : Rounded binary32 1 (2 ^ 150) 0
unfolding size
underflow = grid_rounded binary32 1 (2 ^ 150) (lit< tt) (lit< tt)

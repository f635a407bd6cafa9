-- `ieee::root::guess` is safe: no NaN's pattern is made or read, and nothing wraps. Nothing is claimed about the guess. Assumes nothing.
use Rattle.std.proofs.Common.{ℕ, ◌+◌, ◌-◌, ◌*◌, ◌/◌, ◌%◌, ◌<◌, ◌≤◌, not, T, arith, w64, Fits, le-ltb}
use lib.Ieee.{Float, binary64, to_bits, nan_bits, mul}
use lib.Ieee.Bits.{nan_bits_above, to_bits-lt}
use lib.Ieee.Fits.{mul-fits}
use Rattle.ieee.proofs.Compare.{number}
use Rattle.ieee.proofs.root.guess.Goals as goal

-- what half the exponent leaves is the pattern of a number
sound : (b : ℕ) → b < 0x7f80_0000 → T (not (nan_bits binary64 (0x43e4_0000_0000_0000 - b * 0x1000_0000)))
sound b l =
    let n = 0x43e4_0000_0000_0000 - b * 0x1000_0000 in
    let h : n % 0x8000_0000_0000_0000 ≤ 0x7ff0_0000_0000_0000 = omega arith in
    rw (nan_bits_above binary64 n, le-ltb 0x7ff0_0000_0000_0000 (n % 0x8000_0000_0000_0000) h) tt

module _ (x y : Float) where
  below : to_bits binary64 (mul binary64 x y) < 2 * 0x8000_0000_0000_0000
  below = to_bits-lt binary64 (mul binary64 x y) (mul-fits binary64 x y)

  next : Fits w64 (to_bits binary64 (mul binary64 x y) / 0x1000_0000 + 1)
  next = record { fits = omega (arith, below) }

  moved : Fits w64 ((to_bits binary64 (mul binary64 x y) / 0x1000_0000 + 1) / 2 + 0x4000_0000)
  moved = record { fits = omega (arith, below) }

pub float_from_bits-p : goal.float_from_bits-p
float_from_bits-p c = sound _ c.requires.1

pub float_to_bits-result : goal.float_to_bits-result
float_to_bits-result c = number _ _ c.if-s.true

pub overflow_add-result : goal.overflow_add-result
overflow_add-result c = next _ _

pub overflow_add-result-then-s : goal.overflow_add-result-then-s
overflow_add-result-then-s c = moved _ _

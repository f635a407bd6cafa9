-- A nibble times 17, as a float from 0 to 1 and back, is itself: each of the sixteen is computed. So a texel shown as it is needs no floats. Assumes nothing.
use Rattle.std.proofs.Common.{◌≡◌, ℕ, zero, suc, ◌*◌, ◌/◌, ◌%◌, ◌<◌, Bool, true, ◌&&◌, T, eqb, arith, eqb→eq}
use native.Mathlib.Decide.{dec_lt}
use lib.Ieee.{of_int, of_bits, mul, add, div, lt}
use lib.Ieee.Fits.{and_l, and_r}
use Rattle.ieee.specs.Units.{wholes}
use Rattle.ieee.specs.Number.{unit_of}
use Rattle.texel.specs.Texel.{nibbles_of}
use Rattle.raster.specs.Ink.{byte_of, rgba_of, plain_of}

kept : ℕ → Bool
kept zero = true
kept (suc n) = eqb (byte_of (unit_of (n * 17))) (n * 17) && kept n

of-kept : (n k : ℕ) → T (kept n) → k < n → byte_of (unit_of (k * 17)) ≡ k * 17
unfolding kept
of-kept zero k t h = absurd (omega arith)
of-kept (suc n) k t h =
    elim (dec_lt k n) [
      | yes l ↦ of-kept n k (and_r (eqb (byte_of (unit_of (n * 17))) (n * 17)) (kept n) t) l
      | no f ↦ let e : k ≡ n = omega arith in rw e (eqb→eq (byte_of (unit_of (n * 17))) (n * 17) (and_l (eqb (byte_of (unit_of (n * 17))) (n * 17)) (kept n) t))
    ]

all-kept : T (kept 16)
unfolding kept byte_of of_int of_bits mul add div lt wholes
all-kept = tt

nibble : (n : ℕ) → byte_of (unit_of (n % 16 * 17)) ≡ n % 16 * 17
nibble n = of-kept 16 (n % 16) all-kept (omega arith)

pub nibbles_back : (t : ℕ) → rgba_of (plain_of (nibbles_of t)) ≡ nibbles_of t
unfolding rgba_of plain_of nibbles_of
nibbles_back t = rw (nibble (t / 4096), nibble (t / 256), nibble (t / 16), nibble t)

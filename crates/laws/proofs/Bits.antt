-- What setting bits of a status word does, bit by bit: `bit_or s m` is what `s | m` gives. Assumes nothing.
use Prim.Native.Nat.{ℕ, ◌+◌, ◌*◌, ◌/◌, ◌%◌, ◌^◌, ◌<◌, max}
use mathlib.Core.Path.{◌≡◌, ◌∙◌, ap}
use native.Mathlib.Omega.{arith}
use lib.Bits.{bit_or, or_shr, or_step}

-- bit k of n
abbrev pub bit : ℕ → ℕ → ℕ
bit k n = n / 2 ^ k % 2

low : (q m : ℕ) → m < 2 → (q * 2 + m) % 2 ≡ m
low q m h = omega arith

small : (x y : ℕ) → max (x % 2) (y % 2) < 2
small x y = omega arith

-- each bit of the result is set if it was set or the mask has it
pub bit-bit_or : (k a b : ℕ) → bit k (bit_or a b) ≡ max (bit k a) (bit k b)
bit-bit_or k a b = ap (λ (n : ℕ). n % 2) (or_shr a b k ∙ or_step (a / 2 ^ k) (b / 2 ^ k)) ∙ low _ _ (small (a / 2 ^ k) (b / 2 ^ k))

-- What the checks of uploads come to that a reader may not expect. Assumes nothing.
use Prim.Native.Nat.{ℕ, ◌≤◌, ◌+◌, ◌*◌}
use mathlib.Core.Path.{◌≡◌, refl}
use mathlib.Core.List.{List, [], ◌∷◌}
use native.Mathlib.Omega.{arith}
use borrow.Author.Tests.{ne_eqb, le-ltb}
use lib.ListN.{length}
use Rattle.verdict.specs.declared.Reason.TheVariants.{OutOfRange}
use Rattle.verdict.specs.Verdict.{refused}
use Rattle.execute.specs.Commands.{wrong_length, texture_verdict, count_verdict}

-- width 0, height 0, width above 1024, height above 1024, in this order: 2000 by 0 points at the height
pub height-zero-first : (number : ℕ) → texture_verdict (number ∷ 2000 ∷ 0 ∷ []) ≡ refused OutOfRange 2
unfolding texture_verdict
height-zero-first number = refl

pub width_before_height : (number : ℕ) → texture_verdict (number ∷ 2000 ∷ 2000 ∷ []) ≡ refused OutOfRange 1
unfolding texture_verdict
width_before_height number = refl

-- 28 n + 2 does not wrap in 32 bits: a count of 40000001 hexadecimal, which would want 30 words then, is refused for its length
pub count_not_wrapped : (number : ℕ) (records : List ℕ) → length records ≤ 524289 → count_verdict (number ∷ 0x40000001 ∷ records) ≡ wrong_length
unfolding count_verdict
count_not_wrapped number records few =
    rw (le-ltb (length (number ∷ 0x40000001 ∷ records)) 2 (omega arith), ne_eqb (length (number ∷ 0x40000001 ∷ records)) (2 + 28 * 0x40000001) (λ e. omega arith))

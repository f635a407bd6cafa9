-- The columns of the screen that a sprite reaches, as its ends are cut to the screen. Assumes nothing.
use mathlib.Core.Path.{◌≡◌, ◌∙◌}
use Prim.Native.Nat.{ℕ, suc, ◌+◌, ◌-◌, ◌<◌, ◌≤◌, min}
use mathlib.Core.Bool.{false}
use native.Mathlib.Decide.{dec_lt}
use lib.IntN.{ℤ, pos, negsuc, neg_ℤ, ◌+ℤ◌}
use Rattle.std.proofs.Common.{arith}
use Rattle.std.specs.Int.{int_max, int_min}
use Rattle.std.proofs.lemmas.Int.{ints, clamps}
use Rattle.sprite.specs.declared.span.Span.{Span}
use Rattle.sprite.specs.Spans.{Reached}
use Rattle.sprite.specs.Sprite.{under}
use Rattle.sprite.proofs.Under.{offset_pos, under_in, under_front, under-behind, offset_neg, cut_in, cut_behind}

module _ (a size n : ℕ) (r : Span) where
  -- its first columns, or all of them, are before the screen
  before : r.start ≡ 0 → r.end ≡ min (size - suc a) n → r.skip ≡ min (suc a) size → Reached (negsuc a) size n r
  before s e k = record {
    ordered = omega arith;
    on_screen = omega arith;
    in_sprite = omega arith;
    in_front = λ x p. absurd (omega arith);
    between = λ x p q. cut_in a size x (omega arith);
    behind = λ x p q. cut_behind a size x (omega arith);
    place = λ x p q. offset_neg a x ∙ omega arith;
  }

  -- it begins on the screen, or beyond it
  on : r.start ≡ min a n → r.end ≡ min (a + size) n → r.skip ≡ 0 → Reached (pos a) size n r
  on s e k = record {
    ordered = omega arith;
    on_screen = omega arith;
    in_sprite = omega arith;
    in_front = λ x p. under_front a size x (omega arith);
    between = λ x p q. under_in a size x (omega arith) (omega arith);
    behind = λ x p q. elsewhere x p q (dec_lt x a);
    place = λ x p q. offset_pos a x (omega arith) ∙ omega arith;
  }
    where
      elsewhere : (x : ℕ) → r.end ≤ x → x < n → Dec (x < a) → under (pos a) size x ≡ false
      elsewhere x p q (yes h) = under_front a size x h
      elsewhere x p q (no h) = under-behind a size x (omega arith)

pub cut-to : (at : ℤ) (size n : ℕ) (r : Span) → pos r.start ≡ int_max (pos 0) (int_min at (pos n))
    → pos r.end ≡ int_max (pos r.start) (int_min (at +ℤ pos size) (pos n)) → pos r.skip ≡ int_max (pos 0) (int_min (neg_ℤ at) (pos size)) → Reached at size n r
cut-to (pos a) size n r s e k = on a size n r (omega (arith, ints, clamps)) (omega (arith, ints, clamps)) (omega (arith, ints, clamps))
cut-to (negsuc a) size n r s e k = before a size n r (omega (arith, ints, clamps)) (omega (arith, ints, clamps)) (omega (arith, ints, clamps))

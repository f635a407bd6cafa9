-- `under` and `offset` over natural numbers, by the sign of the column that the sprite begins at; and what they mean. Assumes nothing.
use mathlib.Core.Path.{◌≡◌, refl}
use mathlib.Core.Bool.{true, false}
use Prim.Native.Nat.{ℕ, zero, suc, ◌+◌, ◌-◌, ◌<◌, ◌≤◌}
use native.Mathlib.Omega.{arith}
use borrow.Author.Tests.{le-leb, lt-leb, lt-ltb, le-ltb}
use lib.IntN.{pos, negsuc}
use Rattle.sprite.specs.Sprite.{offset, under}

-- ---- a column of the screen, or 0
pub offset_pos : (a x : ℕ) → a ≤ x → offset (pos a) x ≡ x - a
unfolding offset
offset_pos zero x h = omega arith
offset_pos (suc a) x h = rw (le-ltb x (suc a) h)

pub under_in : (a n x : ℕ) → a ≤ x → x < a + n → under (pos a) n x ≡ true
unfolding under
under_in a n x p q = rw (le-leb a x p, offset_pos a x p) (lt-ltb (x - a) n (omega arith))

pub under_front : (a n x : ℕ) → x < a → under (pos a) n x ≡ false
unfolding under
under_front a n x p = rw (lt-leb a x p)

pub under-behind : (a n x : ℕ) → a + n ≤ x → under (pos a) n x ≡ false
unfolding under
under-behind a n x p =
    let q : a ≤ x = omega arith in
    rw (le-leb a x q, offset_pos a x q) (le-ltb (x - a) n (omega arith))

-- ---- a column before the screen: suc a columns are cut off
pub offset_neg : (a x : ℕ) → offset (negsuc a) x ≡ x + suc a
unfolding offset
offset_neg a x = refl

pub cut_in : (a n x : ℕ) → x + suc a < n → under (negsuc a) n x ≡ true
unfolding under
cut_in a n x p = rw (offset_neg a x) (lt-ltb (x + suc a) n p)

pub cut_behind : (a n x : ℕ) → n ≤ x + suc a → under (negsuc a) n x ≡ false
unfolding under
cut_behind a n x p = rw (offset_neg a x) (le-ltb (x + suc a) n p)

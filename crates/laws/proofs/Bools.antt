-- Tests: what one that joins others says of its parts, what a callee's answer says of the test that it computes, and what holds in both cases. Assumes nothing.
use mathlib.Core.Path.{◌≡◌, refl, sym, ◌∙◌}
use mathlib.Core.Bool.{Bool, true, false, cond, not, ◌&&◌, ◌||◌, true≢false, false≢true}
use borrow.Author.Tests.{not-true, not-false}

pub and_left : (a b : Bool) → (a && b) ≡ true → a ≡ true
and_left true b h = refl
and_left false b h = h

pub and_right : (a b : Bool) → (a && b) ≡ true → b ≡ true
and_right true b h = h
and_right false b h = absurd (false≢true h)

pub or_false_left : (a b : Bool) → (a || b) ≡ false → a ≡ false
or_false_left true b h = h
or_false_left false b h = refl

pub or_false_right : (a b : Bool) → (a || b) ≡ false → b ≡ false
or_false_right true b h = absurd (true≢false h)
or_false_right false b h = h

pub cond_both : (b x : Bool) → cond b x false ≡ true → (b ≡ true) × (x ≡ true)
cond_both true x h = (refl, h)
cond_both false x h = absurd (false≢true h)

-- a callee answers `a` for the test `b`, and its caller goes on by `!a`
pub passed : {a b : Bool} → a ≡ b → not a ≡ false → b ≡ true
passed e t = sym e ∙ not-false _ t

pub failed : {a b : Bool} → a ≡ b → not a ≡ true → b ≡ false
failed e t = sym e ∙ not-true _ t

-- what holds in both cases of a test
pub either : {A : Type 0} (P : A → Type 0) (b : Bool) (x y : A) → P x → P y → P (cond b x y)
either P true x y a b = a
either P false x y a b = b

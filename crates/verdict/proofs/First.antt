-- The first refusal: which one is kept, and that what is kept is well formed. Assumes nothing.
use Prim.Native.Nat.{ℕ, ◌≤◌, ◌<◌}
use mathlib.Core.Path.{◌≡◌, refl}
use mathlib.Core.Bool.{Bool, true, false, cond, ◌&&◌, and-false}
use native.Mathlib.Omega.{arith}
use borrow.Author.Tests.{eq-eqb, ne_eqb, le-leb, lt-leb}
use lib.Dec.{eqb, leb}
use Rattle.verdict.specs.declared.Reason.{Reason}
use Rattle.verdict.specs.declared.Reason.TheVariants.{ZeroOpcode, CountTooLarge, UnknownOpcode, WrongLength, OutOfRange, NotFinite, NotHeld, NotInvertible, NoSlot, NoWords}
use Rattle.verdict.specs.declared.Refusal.{Refusal}
use Rattle.std.specs.Prelude.{Ok, Err}
use Rattle.verdict.specs.Verdict.{Verdict, number_of, refusal, refused, first_after, refusal_ok, and_then}

pub number_some : (r : Reason) → 0 < number_of r
number_some ZeroOpcode = omega arith
number_some CountTooLarge = omega arith
number_some UnknownOpcode = omega arith
number_some WrongLength = omega arith
number_some OutOfRange = omega arith
number_some NotFinite = omega arith
number_some NotHeld = omega arith
number_some NotInvertible = omega arith
number_some NoSlot = omega arith
number_some NoWords = omega arith

number-low : (r : Reason) → number_of r ≤ 10
number-low ZeroOpcode = omega arith
number-low CountTooLarge = omega arith
number-low UnknownOpcode = omega arith
number-low WrongLength = omega arith
number-low OutOfRange = omega arith
number-low NotFinite = omega arith
number-low NotHeld = omega arith
number-low NotInvertible = omega arith
number-low NoSlot = omega arith
number-low NoWords = omega arith

-- ---- which one is kept
pub first-new : (f : Refusal) (op : ℕ) (r : Reason) (i : ℕ) → f.reason ≡ 0 → first_after f op (refused r i) ≡ refusal (number_of r) op i
first-new f op r i e = rw (eq-eqb f.reason 0 e)

pub first-stays : (f : Refusal) (op : ℕ) (v : Verdict) → 0 < f.reason → first_after f op v ≡ f
first-stays f op (Ok u) h = refl
first-stays f op (Err e) h = rw (ne_eqb f.reason 0 (λ e. omega arith))

-- ---- well formed
module _ (f : Refusal) where
  pub none-ok : f.reason ≡ 0 → f.opcode ≡ 0 → f.index ≡ 0 → refusal_ok f ≡ true
  unfolding refusal_ok
  none-ok a b c = rw (eq-eqb f.reason 0 a, eq-eqb f.opcode 0 b, eq-eqb f.index 0 c)

  pub some_ok : 0 < f.reason → f.reason ≤ 10 → f.index ≤ 28 → refusal_ok f ≡ true
  unfolding refusal_ok
  some_ok h a b = rw (ne_eqb f.reason 0 (λ e. omega arith), le-leb f.reason 10 a, le-leb f.index 28 b)

  -- each clause decides by itself, whatever the rest is
  pub reason_large : 10 < f.reason → refusal_ok f ≡ false
  unfolding refusal_ok
  reason_large h = rw (ne_eqb f.reason 0 (λ e. omega arith), lt-leb f.reason 10 h)

  pub opcode_alone : f.reason ≡ 0 → 0 < f.opcode → refusal_ok f ≡ false
  unfolding refusal_ok
  opcode_alone e h = rw (eq-eqb f.reason 0 e, ne_eqb f.opcode 0 (λ z. omega arith))

  pub index_alone : f.reason ≡ 0 → 0 < f.index → refusal_ok f ≡ false
  unfolding refusal_ok
  index_alone e h = rw (eq-eqb f.reason 0 e, ne_eqb f.index 0 (λ z. omega arith)) (and-false (eqb f.opcode 0))

  pub index_large : 28 < f.index → refusal_ok f ≡ false
  unfolding refusal_ok
  index_large h = go (eqb f.reason 0)
    where
      go : (b : Bool) → cond b (eqb f.opcode 0 && eqb f.index 0) (leb f.reason 10 && leb f.index 28) ≡ false
      go true = rw (ne_eqb f.index 0 (λ z. omega arith)) (and-false (eqb f.opcode 0))
      go false = rw (lt-leb f.index 28 h) (and-false (leb f.reason 10))

-- ---- what is kept is well formed, if the index of the verdict is low
abbrev pub Low : ℕ → Verdict → Type 0
Low n (Ok u) = Unit {0}
Low n (Err e) = e.index ≤ n

pub low_then : (n : ℕ) (a b : Verdict) → Low n a → Low n b → Low n (and_then a b)
low_then n (Ok u) b p q = q
low_then n (Err e) b p q = p

pub after-ok : (f : Refusal) (op : ℕ) (v : Verdict) → refusal_ok f ≡ true → Low 28 v → refusal_ok (first_after f op v) ≡ true
after-ok f op (Ok u) e l = e
after-ok f op (Err x) e l = go (eqb f.reason 0)
  where
    go : (b : Bool) → refusal_ok (cond b (refusal (number_of x.reason) op x.index) f) ≡ true
    go true = some_ok (refusal (number_of x.reason) op x.index) (number_some x.reason) (number-low x.reason) l
    go false = e

-- What a check that finds nothing says of the words. Assumes nothing.
use Prim.Native.Nat.{ℕ, zero, suc, ◌+◌, ◌≤◌, ◌<◌}
use mathlib.Core.Path.{◌≡◌, refl, sym, ap, ◌∙◌}
use mathlib.Core.Bool.{Bool, true, false, cond}
use mathlib.Core.List.{List}
use mathlib.Core.Logic.{⊎_elim}
use native.Mathlib.Nat.{eq-or-lt_of_le}
use native.Mathlib.Omega.{arith}
use borrow.Author.Tests.{leb-true}
use lib.Ieee.Scale.{finite}
use Rattle.verdict.specs.declared.Reason.{Reason}
use Rattle.verdict.specs.Verdict.{Verdict, refused, done}
use Rattle.payload.specs.Words.{word_at, float_at, at_most, finite_from}

-- the test that a check goes by held
passed : (t : Bool) (v : Verdict) (r : Reason) (i : ℕ) → cond t v (refused r i) ≡ done → (t ≡ true) × (v ≡ done)
passed true v r i e = (refl, e)
passed false v r i e = (cc, cc)

pub at-most-done : (p : List ℕ) (i most : ℕ) → at_most p i most ≡ done → word_at p i ≤ most
at-most-done p i most e = leb-true (word_at p i) most (passed _ _ _ _ e).0

pub finite_done : (p : List ℕ) (i n k : ℕ) → finite_from p i n ≡ done → i ≤ k → k < i + n → finite (float_at p k) ≡ true
unfolding finite_from
finite_done p i zero k e a b = absurd (omega arith)
finite_done p i (suc n) k e a b =
    let here : (finite (float_at p i) ≡ true) × (finite_from p (i + 1) n ≡ done) = passed _ _ _ _ e in
    ⊎_elim (λ (q : i ≡ k). ap (λ (j : ℕ). finite (float_at p j)) (sym q) ∙ here.0) (λ (q : i < k). finite_done p (i + 1) n k here.1 (omega arith) (omega arith)) (eq-or-lt_of_le a)

-- When no later slot has a number: its mark is not set, or it is among all numbers once. Assumes nothing.
use Prim.Native.Nat.{ℕ, zero, suc, ◌+◌, ◌%◌, ◌≤◌, ◌<◌}
use mathlib.Core.Path.{◌≡◌, refl, sym, ap, ◌∙◌}
use mathlib.Core.Bool.{Bool, true, false, cond, ◌&&◌, and_comm, true≢false}
use mathlib.Core.List.{List, [], ◌∷◌, map}
use native.Mathlib.Omega.{arith}
use native.Mathlib.Decide.{ℕ_discrete}
use lib.ListN.{length, drop, get_or, set}
use lib.Seq.{get_or-set_same, get_or-set_other}
use lib.Dec.{eqb}
use borrow.Author.Tests.{eq-eqb}
use Rattle.store.proofs.Walk.{slots-from, fresh_next}
use Rattle.store.specs.Slots.{no_slot, fresh}
use Rattle.formed.specs.Tests.{differ, number_of, hits}
use Rattle.store.specs.declared.Slot.{Slot}

-- if a number's mark is not set, no slot has it
abbrev pub Marked : List Bool → List Slot → Type 0
Marked marks ss = (n : ℕ) → get_or marks (n % 509) false ≡ false → fresh n ss ≡ true

-- ---- when no later slot has a number
-- a number that is nowhere is no slot's
none-fresh : (n : ℕ) (ss : List Slot) → hits n (map number_of ss) ≡ 0 → fresh n ss ≡ true
none-fresh n [] h = refl
none-fresh n (s ∷ ss) h = go s.held (eqb s.number n) h (λ e. none-fresh n ss e)
  where
    go : (a b : Bool) → cond b (suc (hits n (map number_of ss))) (hits n (map number_of ss)) ≡ 0 → (hits n (map number_of ss) ≡ 0 → fresh n ss ≡ true)
        → cond a (cond b false (fresh n ss)) true ≡ true
    go false b e ih = refl
    go true true e ih = absurd (omega (arith, e))
    go true false e ih = ih e

hits-drop : (n i : ℕ) (ss : List Slot) → hits n (map number_of (drop i ss)) ≤ hits n (map number_of ss)
hits-drop n zero ss = omega arith
hits-drop n (suc i) [] = omega arith
hits-drop n (suc i) (s ∷ ss) = go (eqb s.number n) (hits-drop n i ss)
  where
    go : (b : Bool) → hits n (map number_of (drop i ss)) ≤ hits n (map number_of ss) → hits n (map number_of (drop i ss)) ≤ cond b (suc (hits n (map number_of ss))) (hits n (map number_of ss))
    go true ih = omega arith
    go false ih = omega arith

-- the slot at i, and those from j on after it
module _ (ss : List Slot) (i j : ℕ) (next : i + 1 ≡ j) (here : i < length ss) where
  abbrev s : Slot
  s = get_or ss i no_slot

  from : drop i ss ≡ s ∷ drop j ss
  from = slots-from ss i here ∙ ap (λ (n : ℕ). s ∷ drop n ss) next

  pub differ_held : s.held ≡ true → differ (drop i ss) ≡ (differ (drop j ss) && fresh s.number (drop j ss))
  differ_held a = rw (from, a) (and_comm (fresh s.number (drop j ss)) (differ (drop j ss)))

  pub marked-held : (marks : List Bool) → length marks ≡ 509 → s.held ≡ true → Marked marks (drop j ss) → Marked (set marks (s.number % 509) true) (drop i ss)
  marked-held marks long a m n h = go (ℕ_discrete (n % 509) (s.number % 509))
    where
      go : Dec (n % 509 ≡ s.number % 509) → fresh n (drop i ss) ≡ true
      go (yes p) =
          let set_here : get_or (set marks (s.number % 509) true) (s.number % 509) false ≡ true = get_or-set_same marks (s.number % 509) true false (omega arith) in
          absurd (true≢false (sym set_here ∙ ap (λ (k : ℕ). get_or (set marks (s.number % 509) true) k false) (sym p) ∙ h))
      go (no p) =
          fresh_next ss i here n a (λ (e : s.number ≡ n). p (ap (λ (k : ℕ). k % 509) (sym e)))
          ∙ ap (λ (k : ℕ). fresh n (drop k ss)) next
          ∙ m n (sym (get_or-set_other marks (s.number % 509) (n % 509) true false p) ∙ h)

  -- a number that is there once is its own slot's
  pub once_fresh : hits s.number (map number_of ss) ≤ 1 → fresh s.number (drop j ss) ≡ true
  once_fresh h =
      let here_on : hits s.number (map number_of (drop i ss)) ≡ suc (hits s.number (map number_of (drop j ss))) = rw (from, eq-eqb s.number s.number refl) in
      none-fresh s.number (drop j ss) (omega (arith, here_on, hits-drop s.number i ss))

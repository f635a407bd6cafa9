-- Rule 1.12 as it is tested, in two walks: where the areas lie, and the numbers. `proofs/Split.antt` shows that both together are `slots_ok`. Assumes nothing.
use Rattle.std.specs.Prelude.{ℕ, suc, ◌+◌, Bool, true, false, cond, ◌&&◌, List, [], ◌∷◌, eqb, leb}
use Rattle.store.specs.Slots.{area_of, sides_ok, fresh, unused}
use Rattle.store.specs.declared.Slot.{Slot}
use Rattle.store.specs.declared.Kind.{Kind}

-- all of rule 1.12 but the numbers: slots whose areas begin at the word `at`, in a store of `size` words
abbrev pub laid_ok : Kind → ℕ → ℕ → List Slot → Bool
laid_ok k size at [] = leb at size
laid_ok k size at (s ∷ ss) =
    cond s.held
    (cond (sides_ok k s.width s.height && eqb s.start at) (laid_ok k size (at + area_of k s.width s.height) ss) false)
    (unused (s ∷ ss) && leb at size)

-- no two of the slots up to the first unused one have one number
abbrev pub differ : List Slot → Bool
differ [] = true
differ (s ∷ ss) = cond s.held (fresh s.number ss && differ ss) true

-- what has to differ
abbrev pub number_of : Slot → ℕ
number_of s = s.number

-- how often a number is in a list
abbrev pub hits : ℕ → List ℕ → ℕ
hits n [] = 0
hits n (x ∷ xs) = cond (eqb x n) (suc (hits n xs)) (hits n xs)

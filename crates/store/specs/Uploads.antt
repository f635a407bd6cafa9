-- The stores over plain lists: what is held, in the order of the areas, and what a whole history of accepted uploads leaves.
-- There are no slots and no places here, and both kinds are alike. Assumes nothing.
use Rattle.std.specs.Prelude.{ℕ, ◌+◌, Bool, true, false, cond, not, ◌&&◌, List, [], ◌∷◌, ◌++◌, map, length, eqb, leb, ltb, Result, Ok, Err, ⊤}
use Rattle.std.proofs.Math.Option.{Option, none, some}
use Rattle.store.specs.declared.NoRoom.{NoRoom}
use Rattle.store.specs.declared.NoRoom.TheVariants.{NoSlot, NoWords}

-- an upload of either kind: its number, its sides (a model's count, and 0), and its words
pub record Upload (W : Type 0) : Type 0 where
  pub number : ℕ
  pub wide : ℕ
  pub high : ℕ
  pub words : W

-- with its words as received
abbrev pub Whole : Type 0
Whole = Upload (List ℕ)

-- with just how many they are: all that room and slots depend on
abbrev pub Card : Type 0
Card = Upload ℕ

abbrev pub card : Whole → Card
card u = record { number = u.number; wide = u.wide; high = u.high; words = length u.words }

abbrev pub cards : List Whole → List Card
cards us = map card us

abbrev pub is_some : {A : Type 0} → Option A → Bool
is_some none = false
is_some (some a) = true

module _ {W : Type 0} where
  -- those of every number but n
  abbrev pub without : ℕ → List (Upload W) → List (Upload W)
  without n [] = []
  without n (u ∷ us) = cond (eqb u.number n) (without n us) (u ∷ without n us)

  -- rule 8.3: the first under the number n; of a history, its last accepted upload
  abbrev pub find : ℕ → List (Upload W) → Option (Upload W)
  find n [] = none
  find n (u ∷ us) = cond (eqb u.number n) (some u) (find n us)

  abbrev pub holds : ℕ → List (Upload W) → Bool
  holds n us = is_some (find n us)

  -- rule 8.6: the old upload goes, later ones close up, and the new one is the last
  abbrev pub stored : Upload W → List (Upload W) → List (Upload W)
  stored u us = without u.number us ++ (u ∷ [])

  -- what a history of accepted uploads, the newest first, leaves: the last upload of each number
  abbrev pub live : List (Upload W) → List (Upload W)
  live [] = []
  live (u ∷ h) = stored u (live h)

-- their words, one after the other, and how many those are
abbrev pub words_of : List Whole → List ℕ
words_of [] = []
words_of (u ∷ us) = u.words ++ words_of us

abbrev pub total : List Card → ℕ
total [] = 0
total (c ∷ cs) = c.words + total cs

-- rule 8.8: how many words the uploads behind the one under n have; none if nothing is under n
abbrev pub behind : ℕ → List Card → ℕ
behind n [] = 0
behind n (c ∷ cs) = cond (eqb c.number n) (total cs) (behind n cs)

-- rule 1.4: the most words of a store
abbrev pub most_words : ℕ
most_words = 16777216

-- rule 8.1
abbrev pub slot_count : ℕ
slot_count = 64

-- rule 8.4: how many words count against an upload under n
abbrev pub counted : ℕ → List Card → ℕ
counted n cs = total (without n cs)

-- rule 8.5: is there a slot, and are there words enough?
abbrev pub room : ℕ → List Card → ℕ → ℕ → Result ⊤ NoRoom
room size cs n new =
    cond (not (holds n cs) && leb slot_count (length cs)) (Err NoSlot) (cond (ltb size (counted n cs + new)) (Err NoWords) (Ok _))

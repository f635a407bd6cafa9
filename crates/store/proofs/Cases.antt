-- Rule 9.12, how many words move (rule 8.8), and that 1 and 80000001 are different numbers (rule 8.3), of the definitions. antt computes each. Assumes nothing.
use Prim.Native.Nat.{ℕ}
use mathlib.Core.Path.{◌≡◌, refl}
use mathlib.Core.Option.{some}
use mathlib.Core.List.{List, [], ◌∷◌}
use lib.ListN.{length, replicate}
use Rattle.store.specs.Uploads.{Whole, Card, card, behind, room}
use Rattle.store.specs.Slots.{whole_of, no_slot, told, view, slot_for, looked, slots_after, words_after}
use Rattle.store.specs.declared.Slot.{Slot}
use Rattle.store.specs.declared.NoRoom.{NoRoom}
use Rattle.store.specs.declared.NoRoom.TheVariants.{NoWords}
use Rattle.std.specs.Prelude.{Result, Ok, Err, ⊤}
use Rattle.store.specs.declared.Kind.TheVariants.{Texture}

-- a texture store
record Shelf : Type 0 where
  slots : List Slot
  words : List ℕ

empty : ℕ → Shelf
empty size = record { slots = replicate 64 no_slot; words = replicate size 0 }

answer : Whole → Shelf → Result ⊤ NoRoom
answer u s = room (length s.words) (told Texture s.slots) u.number (length u.words)

-- after an accepted upload
put : Whole → Shelf → Shelf
put u s = record { slots = slots_after (card u) (told Texture s.slots); words = words_after u.number u.words (view Texture s.slots s.words) s.words }

-- ---- rule 9.12
first : Whole
first = whole_of 1 2 2 (11 ∷ 12 ∷ [])

second : Whole
second = whole_of 2 2 2 (21 ∷ 22 ∷ [])

again : Whole
again = whole_of 1 2 2 (31 ∷ 32 ∷ [])

both : ℕ → Shelf
both size = put second (put first (empty size))

case_12_taken : (answer first (empty 4) ≡ Ok _) × (answer second (put first (empty 4)) ≡ Ok _)
unfolding answer put empty first second
case_12_taken = (refl, refl)

case_12_fits : (answer again (both 4) ≡ Ok _) × (answer again (both 6) ≡ Ok _)
unfolding answer both put empty first second again
case_12_fits = (refl, refl)

case_12_four : ((put again (both 4)).words ≡ 21 ∷ 22 ∷ 31 ∷ 32 ∷ []) × (view Texture (put again (both 4)).slots (put again (both 4)).words ≡ second ∷ again ∷ [])
unfolding both put empty first second again
case_12_four = (refl, refl)

case_12_six : ((put again (both 6)).words ≡ 21 ∷ 22 ∷ 31 ∷ 32 ∷ 0 ∷ 0 ∷ []) × (view Texture (put again (both 6)).slots (put again (both 6)).words ≡ second ∷ again ∷ [])
unfolding both put empty first second again
case_12_six = (refl, refl)

-- three words: beside the second they need a store of 5, and under a new number, beside both, one of 7
larger : ℕ → Whole
larger n = whole_of n 2 3 (31 ∷ 32 ∷ 33 ∷ [])

one_too_many : (answer (larger 1) (both 4) ≡ Err NoWords) × (answer (larger 1) (both 5) ≡ Ok _) × (answer (larger 3) (both 6) ≡ Err NoWords) × (answer (larger 3) (both 7) ≡ Ok _)
unfolding answer both put empty first second larger
one_too_many = (refl, refl, refl, refl)

-- ---- rule 8.8: three uploads, of two, two and three words. The first sent again moves five, the second three, the last and a new one none
three : List Card
three = told Texture (put (larger 3) (both 7)).slots

moved_words : (behind 1 three ≡ 5) × (behind 2 three ≡ 3) × (behind 3 three ≡ 0) × (behind 4 three ≡ 0)
unfolding three both put empty first second larger
moved_words = (refl, refl, refl, refl)

-- ---- rule 8.3: a slot is not chosen by some bits of the number, 1 and 80000001 are different
far : Whole
far = whole_of 0x80000001 2 2 (41 ∷ 42 ∷ [])

pair : Shelf
pair = put far (put first (empty 4))

both_held : (answer far (put first (empty 4)) ≡ Ok _) × (looked Texture pair.words (slot_for 1 pair.slots) ≡ some first)
    × (looked Texture pair.words (slot_for 0x80000001 pair.slots) ≡ some far)
unfolding answer pair put empty first far
both_held = (refl, refl, refl)

-- A store as the machine has it: 64 slots, and the lent words. Assumes nothing.
use Rattle.std.specs.Prelude.{ℕ, ◌+◌, ◌-◌, ◌*◌, ◌/◌, max, ◌≡◌, Bool, true, false, cond, not, ◌&&◌, List, [], ◌∷◌, ◌++◌, length, take, drop, replicate, eqb, leb, ltb, Option, Some, None, Result, Ok, Err, ⊤}
use Rattle.std.proofs.Math.Option as past
use Rattle.std.proofs.Math.Option.{none, some}
use Rattle.store.specs.Uploads.{Whole, Card, card, cards, without, stored, words_of, total, slot_count, room}
use Rattle.store.specs.declared.Slot.{Slot}
use Rattle.store.specs.declared.NoRoom.{NoRoom}
use Rattle.store.specs.declared.Kind.{Kind}
use Rattle.store.specs.declared.Kind.TheVariants.{Texture, Model}

-- rule 8.2: how many words an upload takes
abbrev pub area_of : Kind → ℕ → ℕ → ℕ
area_of Texture w h = (w * h + 1) / 2
area_of Model n h = 28 * n

-- rule 1.12: sides of a texture, and the count of a model
abbrev pub sides_ok : Kind → ℕ → ℕ → Bool
sides_ok Texture w h = (ltb 0 w && leb w 1024) && (ltb 0 h && leb h 1024)
sides_ok Model n h = (ltb 0 n && leb n 18724) && eqb h 0

-- ---- from uploads to slots
-- rule 1.12: an unused slot
abbrev pub no_slot : Slot
no_slot = record { held = false; number = 0; width = 0; height = 0; start = 0 }

abbrev pub slot_of : ℕ → Card → Slot
slot_of at c = record { held = true; number = c.number; width = c.wide; height = c.high; start = at }

-- areas that follow each other without a gap, here from the word `at` on
abbrev pub place : ℕ → List Card → List Slot
place at [] = []
place at (c ∷ cs) = slot_of at c ∷ place (at + c.words) cs

-- the slots of these uploads: held slots first, their areas from word 0 on, and unused slots after them
abbrev pub slots_of : List Card → List Slot
slots_of cs = place 0 cs ++ replicate (slot_count - length cs) no_slot

-- ---- and back: what the held slots say, alone and with the store's words
abbrev pub whole_of : ℕ → ℕ → ℕ → List ℕ → Whole
whole_of n w h ws = record { number = n; wide = w; high = h; words = ws }

abbrev pub card_of : Kind → ℕ → ℕ → ℕ → Card
card_of k n w h = record { number = n; wide = w; high = h; words = area_of k w h }

abbrev pub card_at : Kind → Slot → Card
card_at k s = card_of k s.number s.width s.height

-- the cards of the held slots, in order
abbrev pub told : Kind → List Slot → List Card
told k [] = []
told k (s ∷ ss) = cond s.held (card_at k s ∷ told k ss) (told k ss)

-- rule 8.2: the upload of a held slot, its words read from the store
abbrev pub upload_at : Kind → Slot → List ℕ → Whole
upload_at k s store = whole_of s.number s.width s.height (take (area_of k s.width s.height) (drop s.start store))

abbrev pub view : Kind → List Slot → List ℕ → List Whole
view k [] store = []
view k (s ∷ ss) store = cond s.held (upload_at k s store ∷ view k ss store) (view k ss store)

-- rule 8.3: the first held slot with the number n
abbrev pub slot_for : ℕ → List Slot → Option Slot
slot_for n [] = None
slot_for n (s ∷ ss) = cond (s.held && eqb s.number n) (Some s) (slot_for n ss)

-- and the upload of that slot
abbrev pub looked : Kind → List ℕ → Option Slot → past.Option Whole
looked k store (Some s) = some (upload_at k s store)
looked k store None = none

-- what a store has under a number
abbrev pub look_in : Kind → List Slot → List ℕ → ℕ → past.Option Whole
look_in k ss store n = looked k store (slot_for n ss)

-- does the slot stay when an upload under n comes?
abbrev pub stays : ℕ → Slot → Bool
stays n s = s.held && not (eqb s.number n)

-- ---- an accepted upload: the slots, and the words
-- rule 8.6: the new one is the last
abbrev pub slots_after : Card → List Card → List Slot
slots_after c cs = slots_of (stored c cs)

-- rule 8.7: words in front, zeros up to an old end that lies further, and the words beyond
abbrev pub over : ℕ → List ℕ → List ℕ → List ℕ
over old front store = front ++ (replicate (old - length front) 0 ++ drop (max old (length front)) store)

-- rule 8.7: n and ws are the new upload's, us the uploads before it
abbrev pub words_after : ℕ → List ℕ → List Whole → List ℕ → List ℕ
words_after n ws us store = over (total (cards us)) (words_of (without n us) ++ ws) store

abbrev pub is_fits : Result ⊤ NoRoom → Bool
is_fits (Ok u) = true
is_fits (Err why) = false

-- what is answered: if there is room, the slots afterwards
abbrev pub answered : Result ⊤ NoRoom → List Slot → Result (List Slot) NoRoom
answered (Ok u) after = Ok after
answered (Err why) after = Err why

-- the answer and every word of the store after an upload u that passed the checks of its command. If it has no room, the store is as it was
pub record Uploaded (k : Kind) (ss : List Slot) (store : List ℕ) (u : Whole) (r : Result (List Slot) NoRoom) (after : List ℕ) : Type 0 where
  pub answer : r ≡ answered (room (length store) (told k ss) u.number (length u.words)) (slots_after (card u) (told k ss))
  pub words : after ≡ cond (is_fits (room (length store) (told k ss) u.number (length u.words))) (words_after u.number u.words (view k ss store) store) store

-- ---- well formed
-- none of the slots, up to the first unused one, has the number n
abbrev pub fresh : ℕ → List Slot → Bool
fresh n [] = true
fresh n (s ∷ ss) = cond s.held (cond (eqb s.number n) false (fresh n ss)) true

-- is a slot unused, and all zero?
abbrev pub zero_slot : Slot → Bool
zero_slot s = not s.held && ((eqb s.number 0 && eqb s.width 0) && (eqb s.height 0 && eqb s.start 0))

abbrev pub unused : List Slot → Bool
unused [] = true
unused (s ∷ ss) = cond (zero_slot s) (unused ss) false

-- is the held slot s in order, if its area has to begin at the word `at` and the slots after it are ss?
abbrev pub held_ok : Kind → ℕ → Slot → List Slot → Bool
held_ok k at s ss = (sides_ok k s.width s.height && eqb s.start at) && fresh s.number ss

-- rule 1.12: slots whose areas begin at the word `at`, in a store of `size` words
abbrev pub slots_ok : Kind → ℕ → ℕ → List Slot → Bool
slots_ok k size at [] = leb at size
slots_ok k size at (s ∷ ss) =
    cond s.held
    (cond (held_ok k at s ss) (slots_ok k size (at + area_of k s.width s.height) ss) false)
    (unused (s ∷ ss) && leb at size)

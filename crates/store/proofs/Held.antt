-- A well-formed store holds a list of uploads: `Rep`. Its slots and words contain that list, an accepted upload keeps it so, and it is well formed. Assumes nothing.
use Prim.Native.Nat.{ℕ, zero, suc, ◌+◌, ◌-◌, ◌≤◌, max}
use mathlib.Core.Path.{◌≡◌, refl, sym, ap, ◌∙◌}
use mathlib.Core.Bool.{Bool, true, false, cond, not, ◌&&◌, true≢false, false≢true}
use mathlib.Core.Option.{some}
use mathlib.Core.List.{List, [], ◌∷◌, ◌++◌, append_assoc, append-nil}
use native.Mathlib.Omega.{arith}
use native.Mathlib.Nat.{add-zero, zero-add, sub-zero, suc-sub-suc}
use lib.ListN.{length, take, drop, replicate, length-append, length-replicate, length-drop, take-append-drop}
use lib.Seq.{drop-drop, take-append_seam, drop-append_seam, drop_at, length-take-le}
use lib.Dec.{eqb, leb}
use borrow.Author.Tests.{eqb-true, eq-eqb, leb-true, le-leb, not-true}
use Rattle.laws.proofs.Bools.{and_left, and_right, cond_both}
use Rattle.store.proofs.Laws.{Apart, All, Space, all-stored, apart-stored, total-stored, length-stored, length-words_of, words_of-append, cards-stored}
use Rattle.store.specs.Uploads.{Whole, Card, card, cards, without, find, is_some, holds, words_of, total, stored}
use Rattle.store.specs.Slots.{area_of, sides_ok, no_slot, place, slots_of, card_at, told, view, words_after, slots_after, slots_ok, held_ok, zero_slot, fresh, unused}
use Rattle.store.specs.declared.Slot.{Slot}
use Rattle.store.specs.declared.Kind.{Kind}

-- an upload that passed the checks of its command: sides in range, and exactly the words that they ask
pub record Sized (k : Kind) (c : Card) : Type 0 where
  pub sides : sides_ok k c.wide c.high ≡ true
  pub size : c.words ≡ area_of k c.wide c.high

-- ---- slots alone
-- the slots are those of these cards, in a store of a size
pub record Formed (k : Kind) (size : ℕ) (slots : List Slot) (cs : List Card) : Type 0 where
  pub slots-are : slots ≡ slots_of cs
  pub sized : All (Sized k) cs
  pub apart : Apart cs
  pub few : length cs ≤ 64
  pub fits : total cs ≤ size

-- such slots contain these cards
told_none : (k : Kind) (m : ℕ) → told k (replicate m no_slot) ≡ []
told_none k zero = refl
told_none k (suc m) = told_none k m

told-place : (k : Kind) (at m : ℕ) (cs : List Card) → All (Sized k) cs → told k (place at cs ++ replicate m no_slot) ≡ cs
told-place k at m [] a = told_none k m
told-place k at m (c ∷ cs) a =
    λ i. record { number = c.number; wide = c.wide; high = c.high; words = sym a.0.size i }
    ∷ told-place k (at + c.words) m cs a.1 i

pub told_is : {k : Kind} {size : ℕ} {slots : List Slot} {cs : List Card} → Formed k size slots cs → told k slots ≡ cs
told_is {k} {cs = cs} f = ap (told k) f.slots-are ∙ told-place k 0 (64 - length cs) cs f.sized

-- an accepted upload keeps them so
pub formed_stored : {k : Kind} {size : ℕ} {slots : List Slot} {cs : List Card} (c : Card) → Formed k size slots cs → Sized k c → Space size cs c.number c.words
    → Formed k size (slots_after c cs) (stored c cs)
formed_stored {k} {cs = cs} c f s left = record {
  slots-are = refl;
  sized = all-stored (Sized k) c cs s f.sized;
  apart = apart-stored c cs f.apart;
  few = omega (arith, length-stored c cs, left.slot);
  fits = omega (arith, total-stored c cs, left.words);
}

-- they are well formed
fresh-none : (n m : ℕ) → fresh n (replicate m no_slot) ≡ true
fresh-none n zero = refl
fresh-none n (suc m) = refl

fresh-place : (n at m : ℕ) (cs : List Card) → holds n cs ≡ false → fresh n (place at cs ++ replicate m no_slot) ≡ true
fresh-place n at m [] h = fresh-none n m
fresh-place n at m (c ∷ cs) h = go (eqb c.number n) h (fresh-place n (at + c.words) m cs)
  where
    go : (b : Bool) → is_some (cond b (some c) (find n cs)) ≡ false
        → (holds n cs ≡ false → fresh n (place (at + c.words) cs ++ replicate m no_slot) ≡ true)
        → cond b false (fresh n (place (at + c.words) cs ++ replicate m no_slot)) ≡ true
    go true p ih = absurd (true≢false p)
    go false p ih = ih p

unused-none : (m : ℕ) → unused (replicate m no_slot) ≡ true
unused-none zero = refl
unused-none (suc m) = unused-none m

ok-none : (k : Kind) (size at m : ℕ) → at ≤ size → slots_ok k size at (replicate m no_slot) ≡ true
ok-none k size at zero h = le-leb at size h
ok-none k size at (suc m) h = rw (unused-none m, le-leb at size h)

ok-place : (k : Kind) (size at m : ℕ) (cs : List Card) → All (Sized k) cs → Apart cs → at + total cs ≤ size
    → slots_ok k size at (place at cs ++ replicate m no_slot) ≡ true
ok-place k size at m [] a d h = ok-none k size at m (omega arith)
ok-place k size at m (c ∷ cs) a d h =
    rw (a.0.sides, eq-eqb at at refl, fresh-place c.number (at + c.words) m cs d.0, ← a.0.size)
    (ok-place k size (at + c.words) m cs a.1 d.1 (omega arith))

pub formed_ok : {k : Kind} {size : ℕ} {slots : List Slot} {cs : List Card} → Formed k size slots cs → slots_ok k size 0 slots ≡ true
formed_ok {k} {size} {cs = cs} f = rw f.slots-are (ok-place k size 0 (64 - length cs) cs f.sized f.apart (omega (arith, f.fits)))

-- ---- and the other way: well-formed slots are those of the cards that they contain
is-no_slot : (s : Slot) → zero_slot s ≡ true → s ≡ no_slot
is-no_slot s h =
    let a : Bool = eqb s.number 0 in
    let b : Bool = eqb s.width 0 in
    let c : Bool = eqb s.height 0 in
    let d : Bool = eqb s.start 0 in
    let rest : (a && b) && (c && d) ≡ true = and_right (not s.held) ((a && b) && (c && d)) h in
    let e : s.held ≡ false = not-true s.held (and_left (not s.held) ((a && b) && (c && d)) h) in
    let f : s.number ≡ 0 = eqb-true s.number 0 (and_left a b (and_left (a && b) (c && d) rest)) in
    let g : s.width ≡ 0 = eqb-true s.width 0 (and_right a b (and_left (a && b) (c && d) rest)) in
    let x : s.height ≡ 0 = eqb-true s.height 0 (and_left c d (and_right (a && b) (c && d) rest)) in
    let y : s.start ≡ 0 = eqb-true s.start 0 (and_right c d (and_right (a && b) (c && d) rest)) in
    λ i. record { held = e i; number = f i; width = g i; height = x i; start = y i }

all-unused : (ss : List Slot) → unused ss ≡ true → ss ≡ replicate (length ss) no_slot
all-unused [] h = refl
all-unused (s ∷ ss) h = go (zero_slot s) refl h (all-unused ss)
  where
    go : (b : Bool) → zero_slot s ≡ b → cond b (unused ss) false ≡ true → (unused ss ≡ true → ss ≡ replicate (length ss) no_slot) → s ∷ ss ≡ no_slot ∷ replicate (length ss) no_slot
    go true e h ih = λ i. is-no_slot s e i ∷ ih h i
    go false e h ih = absurd (false≢true h)

-- slots whose areas begin at a word
record From (k : Kind) (size at : ℕ) (ss : List Slot) (cs : List Card) : Type 0 where
  slots-are : ss ≡ place at cs ++ replicate (length ss - length cs) no_slot
  sized : All (Sized k) cs
  apart : Apart cs
  few : length cs ≤ length ss
  fits : at + total cs ≤ size

fresh_holds : (n at m : ℕ) (cs : List Card) → fresh n (place at cs ++ replicate m no_slot) ≡ true → holds n cs ≡ false
fresh_holds n at m [] h = refl
fresh_holds n at m (c ∷ cs) h = go (eqb c.number n) h (fresh_holds n (at + c.words) m cs)
  where
    go : (b : Bool) → cond b false (fresh n (place (at + c.words) cs ++ replicate m no_slot)) ≡ true
        → (fresh n (place (at + c.words) cs ++ replicate m no_slot) ≡ true → holds n cs ≡ false) → is_some (cond b (some c) (find n cs)) ≡ false
    go true p ih = absurd (false≢true p)
    go false p ih = ih p

-- a held slot in front of those
from_more : (k : Kind) (size at : ℕ) (s : Slot) (ss : List Slot) (cs : List Card) → s.held ≡ true → held_ok k at s ss ≡ true
    → From k size (at + area_of k s.width s.height) ss cs → From k size at (s ∷ ss) (card_at k s ∷ cs)
from_more k size at s ss cs e ok t =
    let area : ℕ = area_of k s.width s.height in
    let sides : Bool = sides_ok k s.width s.height in
    let front : sides && eqb s.start at ≡ true = and_left (sides && eqb s.start at) (fresh s.number ss) ok in
    let p : s.start ≡ at = eqb-true s.start at (and_right sides (eqb s.start at) front) in
    let tail : ss ≡ place (at + area) cs ++ replicate (suc (length ss) - suc (length cs)) no_slot = rw suc-sub-suc t.slots-are in
    let new : fresh s.number ss ≡ true = and_right (sides && eqb s.start at) (fresh s.number ss) ok in
    record {
      slots-are = λ i. record { held = e i; number = s.number; width = s.width; height = s.height; start = p i }
          ∷ tail i;
      sized = (record { sides = and_left sides (eqb s.start at) front; size = refl }, t.sized);
      apart = (fresh_holds s.number (at + area) (length ss - length cs) cs (ap (fresh s.number) (sym t.slots-are) ∙ new), t.apart);
      few = omega (arith, t.few);
      fits = omega (arith, t.fits);
    }

from : (k : Kind) (size : ℕ) (ss : List Slot) (at : ℕ) → slots_ok k size at ss ≡ true → From k size at ss (told k ss)
from k size [] at h = record { slots-are = refl; sized = tt; apart = tt; few = omega arith; fits = omega (arith, leb-true at size h) }
from k size (s ∷ ss) at h = go s.held refl h (from k size ss (at + area_of k s.width s.height))
  where
    go : (b : Bool) → s.held ≡ b
        → cond b (cond (held_ok k at s ss) (slots_ok k size (at + area_of k s.width s.height) ss) false) (unused (s ∷ ss) && leb at size) ≡ true
        → (slots_ok k size (at + area_of k s.width s.height) ss ≡ true → From k size (at + area_of k s.width s.height) ss (told k ss))
        → From k size at (s ∷ ss) (cond b (card_at k s ∷ told k ss) (told k ss))
    go true e h ih =
        let two = cond_both (held_ok k at s ss) (slots_ok k size (at + area_of k s.width s.height) ss) h in
        from_more k size at s ss (told k ss) e two.0 (ih two.1)
    go false e h ih =
        let all : s ∷ ss ≡ replicate (suc (length ss)) no_slot = all-unused (s ∷ ss) (and_left (unused (s ∷ ss)) (leb at size) h) in
        let none : told k ss ≡ [] = ap (λ (l : List Slot). told k (drop 1 l)) all ∙ told_none k (length ss) in
        rw none
        (record { slots-are = rw sub-zero all; sized = tt; apart = tt; few = omega arith; fits = omega (arith, leb-true at size (and_right (unused (s ∷ ss)) (leb at size) h)) })

pub ok_formed : (k : Kind) (size : ℕ) (slots : List Slot) → length slots ≡ 64 → slots_ok k size 0 slots ≡ true → Formed k size slots (told k slots)
ok_formed k size slots n h =
    let t = from k size slots 0 h in
    record { slots-are = t.slots-are ∙ rw n; sized = t.sized; apart = t.apart; few = omega (arith, t.few); fits = omega (arith, t.fits) }

-- ---- slots and words
-- they hold just these uploads, in this order
pub record Rep (k : Kind) (slots : List Slot) (store : List ℕ) (us : List Whole) : Type 0 where
  pub formed : Formed k (length store) slots (cards us)
  pub words_are : store ≡ words_of us ++ drop (total (cards us)) store

-- what a held slot and those after it contain, if the words from a word on are known
view-none : (k : Kind) (m : ℕ) (store : List ℕ) → view k (replicate m no_slot) store ≡ []
view-none k zero store = refl
view-none k (suc m) store = view-none k m store

view-place : (k : Kind) (us : List Whole) (at m : ℕ) (store rest : List ℕ) → All (Sized k) (cards us) → drop at store ≡ words_of us ++ rest
    → view k (place at (cards us) ++ replicate m no_slot) store ≡ us
view-place k [] at m store rest a e = view-none k m store
view-place k (u ∷ us) at m store rest a e =
    let here : drop at store ≡ u.words ++ (words_of us ++ rest) = e ∙ append_assoc u.words (words_of us) rest in
    let next : drop (at + length u.words) store ≡ words_of us ++ rest =
    sym (drop-drop (length u.words) at store) ∙ ap (λ (l : List ℕ). drop (length u.words) l) here ∙ drop-append_seam u.words (words_of us ++ rest) in
    let words : take (area_of k u.wide u.high) (drop at store) ≡ u.words = rw (here, ← a.0.size) (take-append_seam u.words (words_of us ++ rest)) in
    λ i. record { number = u.number; wide = u.wide; high = u.high; words = words i }
    ∷ view-place k us (at + length u.words) m store rest a.1 next i

pub view-is : {k : Kind} {slots : List Slot} {store : List ℕ} {us : List Whole} → Rep k slots store us → view k slots store ≡ us
view-is {k} {store = store} {us} r =
    ap (λ (ss : List Slot). view k ss store) r.formed.slots-are ∙ view-place k us 0 (64 - length (cards us)) store (drop (total (cards us)) store) r.formed.sized r.words_are

-- the words of back-to-back areas are those of the uploads in them
view-cards : (k : Kind) (cs : List Card) (at m : ℕ) (store : List ℕ) → All (Sized k) cs → at + total cs ≤ length store
    → cards (view k (place at cs ++ replicate m no_slot) store) ≡ cs
view-cards k [] at m store a h = ap cards (view-none k m store)
view-cards k (c ∷ cs) at m store a h =
    let area : ℕ = area_of k c.wide c.high in
    let long : length (take area (drop at store)) ≡ c.words = length-take-le area (drop at store) (omega (arith, length-drop at store, a.0.size)) ∙ sym a.0.size in
    λ i. record { number = c.number; wide = c.wide; high = c.high; words = long i }
    ∷ view-cards k cs (at + c.words) m store a.1 (omega arith) i

view-words : (k : Kind) (cs : List Card) (at m : ℕ) (store : List ℕ) → All (Sized k) cs
    → drop at store ≡ words_of (view k (place at cs ++ replicate m no_slot) store) ++ drop (at + total cs) store
view-words k [] at m store a = rw (view-none k m store, add-zero)
view-words k (c ∷ cs) at m store a =
    let area : ℕ = area_of k c.wide c.high in
    let sum : at + (c.words + total cs) ≡ at + c.words + total cs = omega arith in
    let next : drop area (drop at store) ≡ drop (at + c.words) store = drop-drop area at store ∙ rw a.0.size in
    sym (take-append-drop area (drop at store)) ∙ rw (sum, append_assoc) (ap (λ (l : List ℕ). take area (drop at store) ++ l) (next ∙ view-words k cs (at + c.words) m store a.1))

-- so a well-formed store holds what its slots and words say
module _ (k : Kind) (slots : List Slot) (store : List ℕ) (n : length slots ≡ 64) (ok : slots_ok k (length store) 0 slots ≡ true) where
  formed_at : Formed k (length store) slots (told k slots)
  formed_at = ok_formed k (length store) slots n ok

  pub view-told : cards (view k slots store) ≡ told k slots
  view-told =
      ap (λ (ss : List Slot). cards (view k ss store)) formed_at.slots-are
      ∙ view-cards k (told k slots) 0 (64 - length (told k slots)) store formed_at.sized (omega (arith, formed_at.fits))

  pub ok_rep : Rep k slots store (view k slots store)
  ok_rep = record {
    formed = rw view-told formed_at;
    words_are = rw view-told
        (view-words k (told k slots) 0 (64 - length (told k slots)) store formed_at.sized
        ∙ ap (λ (ss : List Slot). words_of (view k ss store) ++ drop (0 + total (told k slots)) store) (sym formed_at.slots-are) ∙ rw zero-add);
  }

-- an accepted upload keeps it, and the store's length
module _ {k : Kind} {slots : List Slot} {store : List ℕ} {us : List Whole} (u : Whole) (r : Rep k slots store us) (left : Space (length store) (cards us) u.number (length u.words)) where
  abbrev after : List ℕ
  after = words_after u.number u.words us store

  front_is : words_of (without u.number us) ++ u.words ≡ words_of (stored u us)
  front_is = sym (words_of-append (without u.number us) (u ∷ []) ∙ ap (λ (l : List ℕ). words_of (without u.number us) ++ l) (append-nil u.words))

  front_long : length (words_of (without u.number us) ++ u.words) ≡ total (cards (stored u us))
  front_long = ap length front_is ∙ length-words_of (stored u us)

  pub length-after : length after ≡ length store
  length-after =
      let old : ℕ = total (cards us) in
      let new : List ℕ = words_of (without u.number us) ++ u.words in
      let z : List ℕ = replicate (old - length new) 0 in
      let d : List ℕ = drop (max old (length new)) store in
      omega (
        arith,
        length-append new (z ++ d),
        length-append z d,
        length-replicate (old - length new) zero,
        length-drop (max old (length new)) store,
        r.formed.fits,
        front_long,
        ap total (cards-stored u us),
        total-stored (card u) (cards us),
        left.words,
      )

  pub rep_stored : Sized k (card u) → Rep k (slots_after (card u) (cards us)) after (stored u us)
  rep_stored s = record {
    formed = rw (cards-stored u us, length-after) (formed_stored (card u) r.formed s left);
    words_are =
        let new : List ℕ = words_of (without u.number us) ++ u.words in
        let rest : List ℕ = replicate (total (cards us) - length new) 0 ++ drop (max (total (cards us)) (length new)) store in
        ap (λ (l : List ℕ). l ++ rest) front_is ∙ ap (λ (l : List ℕ). words_of (stored u us) ++ l) (sym (drop_at new rest (total (cards (stored u us))) front_long));
  }

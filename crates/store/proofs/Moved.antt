-- What `put` finds and leaves, in terms of the uploads that a store holds: the old upload under a number, the closing up of the words and how many that moves, and the new ones last. Assumes nothing.
use Prim.Native.Nat.{ℕ, zero, suc, ◌+◌, ◌-◌, ◌≤◌, max}
use mathlib.Core.Path.{◌≡◌, refl, sym, ap, ◌∙◌}
use mathlib.Core.Bool.{Bool, true, false, cond, ◌&&◌, true≢false}
use mathlib.Core.Option.{some}
use mathlib.Core.List.{List, [], ◌∷◌, ◌++◌, append_assoc}
use native.Mathlib.Omega.{arith}
use native.Mathlib.Nat.{add-zero, zero-add}
use lib.ListN.{length, take, drop, replicate}
use lib.Seq.{take_at, drop_at, drop-drop, paste}
use lib.Dec.{eqb}
use borrow.Author.Tests.{eqb-true}
use Rattle.store.specs.Uploads.{Whole, Card, card, cards, without, find, is_some, holds, stored, words_of, total, behind}
use Rattle.store.specs.Slots.{area_of, sides_ok, no_slot, slot_of, place, told, upload_at, view, slot_for, looked, over, words_after, slots_ok}
use Rattle.store.specs.declared.Slot.{Slot}
use Rattle.store.specs.declared.Kind.{Kind}
use Rattle.std.specs.Prelude.{Option, Some, None}
use Rattle.store.proofs.Laws.{Apart, without-none, all_mid, cards-append, cards-without, total-append, words_of-append, length-words_of}
use Rattle.store.proofs.Walk.{none-holds}
use Rattle.store.proofs.Held.{Sized, Rep, ok_rep, view-told}

-- looking a number up in slots and words is looking it up in the uploads that they contain
pub look_is : (k : Kind) (n : ℕ) (ss : List Slot) (store : List ℕ) → looked k store (slot_for n ss) ≡ find n (view k ss store)
look_is k n [] store = refl
look_is k n (s ∷ ss) store = go s.held (eqb s.number n) refl (look_is k n ss store)
  where
    go : (a b : Bool) → eqb s.number n ≡ b → looked k store (slot_for n ss) ≡ find n (view k ss store)
        → looked k store (cond (a && b) (Some s) (slot_for n ss)) ≡ find n (cond a (upload_at k s store ∷ view k ss store) (view k ss store))
    go true true e ih = rw e
    go true false e ih = rw e ih
    go false b e ih = ih

pub holds-cards : (n : ℕ) (us : List Whole) → holds n (cards us) ≡ holds n us
holds-cards n [] = refl
holds-cards n (u ∷ us) = go (eqb u.number n) (holds-cards n us)
  where
    go : (b : Bool) → holds n (cards us) ≡ holds n us → is_some (cond b (some (card u)) (find n (cards us))) ≡ is_some (cond b (some u) (find n us))
    go true ih = refl
    go false ih = ih

-- ---- the old upload under n: those before it and those after it, which are what is left without it; and the slot that is found
record Old (n at : ℕ) (us : List Whole) (s : Slot) : Type 0 where
  xs : List Whole
  v : Whole
  ys : List Whole
  is : us ≡ xs ++ (v ∷ ys)
  gone : without n us ≡ xs ++ ys
  later : behind n (cards us) ≡ total (cards ys)
  slot : s ≡ slot_of (at + total (cards xs)) (card v)

none_free : (n m : ℕ) → slot_for n (replicate m no_slot) ≡ None
none_free n zero = refl
none_free n (suc m) = none_free n m

old_of : (n at m : ℕ) (us : List Whole) (s : Slot) → Apart (cards us) → slot_for n (place at (cards us) ++ replicate m no_slot) ≡ Some s → Old n at us s
old_of n at m [] s d e = absurd (let z : ◌≡◌ {A = ℕ} 0 1 = cc (none_free n m) in omega arith)
old_of n at m (u ∷ us) s d e = go (eqb u.number n) refl e (old_of n (at + length u.words) m us s d.1)
  where
    go : (b : Bool) → eqb u.number n ≡ b → cond b (Some (slot_of at (card u))) (slot_for n (place (at + length u.words) (cards us) ++ replicate m no_slot)) ≡ Some s
        → (slot_for n (place (at + length u.words) (cards us) ++ replicate m no_slot) ≡ Some s → Old n (at + length u.words) us s) → Old n at (u ∷ us) s
    go true b e ih = record {
      xs = [];
      v = u;
      ys = us;
      is = refl;
      gone = rw b (without-none n us (sym (holds-cards n us) ∙ rw (eqb-true u.number n b) at d.0));
      later = rw b;
      slot = rw add-zero (cc);
    }
    go false b e ih =
        let o = ih e in
        let sum : at + length u.words + total (cards o.xs) ≡ at + (length u.words + total (cards o.xs)) = omega arith in
        record { xs = u ∷ o.xs; v = o.v; ys = o.ys; is = ap (λ (l : List Whole). u ∷ l) o.is; gone = rw (b, o.gone); later = rw b o.later; slot = rw sum at o.slot }

-- ---- the closing up: from A B C R to A C, and the rest where it was
close : (A B C R store : List ℕ) (a b c : ℕ) → store ≡ A ++ (B ++ (C ++ R)) → length A ≡ a → length B ≡ b → length C ≡ c
    → paste store a (drop (a + b) store) c ≡ (A ++ C) ++ drop (a + c) store
close A B C R store a b c e p q r =
    let front : take a store ≡ A = rw e (take_at A (B ++ (C ++ R)) a p) in
    let mid : drop (a + b) store ≡ C ++ R =
    sym (drop-drop b a store) ∙ ap (drop b) (rw e (drop_at A (B ++ (C ++ R)) a p)) ∙ drop_at B (C ++ R) b q in
    rw (front, mid, take_at C R c r)

-- ---- the new words last, over a store whose first words are those of the other numbers
last : (n : ℕ) (ws : List ℕ) (us : List Whole) (store st : List ℕ) (at end : ℕ) → end ≡ total (cards us) → at ≡ total (cards (without n us)) → at ≤ end
    → st ≡ words_of (without n us) ++ drop at store → over end (take at st ++ ws) st ≡ words_after n ws us store
last n ws us store st at end p q h e =
    let others : List ℕ = words_of (without n us) in
    let m : ℕ = max end (length (others ++ ws)) in
    let long : length others ≡ at = length-words_of (without n us) ∙ sym q in
    let front : take at st ≡ others = rw e (take_at others (drop at store) at long) in
    let past : m ≡ at + (m - at) = omega arith in
    let more : drop at st ≡ drop at store = rw e (drop_at others (drop at store) at long) in
    let back : drop m st ≡ drop m store =
    ap (λ (i : ℕ). drop i st) past ∙ sym (drop-drop (m - at) at st) ∙ ap (drop (m - at)) more ∙ drop-drop (m - at) at store ∙ ap (λ (i : ℕ). drop i store) (sym past) in
    rw (front, back, p)

-- ---- rule 8.8: how many words move. A new number moves none
pub moves_new : (n : ℕ) (cs : List Card) → holds n cs ≡ false → behind n cs ≡ 0
moves_new n [] h = refl
moves_new n (c ∷ cs) h = go (eqb c.number n) h (moves_new n cs)
  where
    go : (b : Bool) → is_some (cond b (some c) (find n cs)) ≡ false → (holds n cs ≡ false → behind n cs ≡ 0) → cond b (total cs) (behind n cs) ≡ 0
    go true p ih = absurd (true≢false p)
    go false p ih = ih p

-- nor does the last upload, sent again
pub moves_last : (c : Card) (cs : List Card) → behind c.number (stored c cs) ≡ 0
moves_last c [] = go (eqb c.number c.number)
  where
    go : (b : Bool) → cond b (total []) (behind c.number []) ≡ 0
    go true = refl
    go false = refl
moves_last c (d ∷ cs) = go (eqb d.number c.number) refl (moves_last c cs)
  where
    go : (b : Bool) → eqb d.number c.number ≡ b → behind c.number (stored c cs) ≡ 0
        → behind c.number (cond b (without c.number cs) (d ∷ without c.number cs) ++ (c ∷ [])) ≡ 0
    go true e ih = ih
    go false e ih = rw e ih

-- ---- what `put` needs to know, and what it leaves
module _ (k : Kind) (slots : List Slot) (store : List ℕ) (n : ℕ) (long : length slots ≡ 64) (ok : slots_ok k (length store) 0 slots ≡ true) where
  rep : Rep k slots store (view k slots store)
  rep = ok_rep k slots store long ok

  total-is : total (told k slots) ≡ total (cards (view k slots store))
  total-is = ap total (sym (view-told k slots store long ok))

  pub total-fits : total (told k slots) ≤ length store
  total-fits = omega (arith, total-is, rep.formed.fits)

  -- nothing is under the number: the words of the others are all that there are
  pub put-new : (ws : List ℕ) (others : ℕ) → slot_for n slots ≡ None → others ≡ total (without n (told k slots))
      → over others (take others store ++ ws) store ≡ words_after n ws (view k slots store) store
  put-new ws others e p =
      let us : List Whole = view k slots store in
      let free : holds n us ≡ false = ap is_some (sym (look_is k n slots store)) ∙ ap (λ (f : Option Slot). is_some (looked k store f)) e in
      let same : without n us ≡ us = without-none n us free in
      let all : others ≡ total (cards us) = p ∙ ap total (without-none n (told k slots) (none-holds k n slots e)) ∙ total-is in
      last n ws us store store others others all (rw same all) (omega arith) (rw (same, all) rep.words_are)

  -- something is: where it is, what is left without it, and the words once later ones have closed up
  pub record Spot (s : Slot) : Type 0 where
    pub sides : sides_ok k s.width s.height ≡ true
    pub inside : s.start + area_of k s.width s.height ≤ total (told k slots)
    pub left : total (without n (told k slots)) + area_of k s.width s.height ≡ total (told k slots)
    pub closed : paste store s.start (drop (s.start + area_of k s.width s.height) store) (total (told k slots) - (s.start + area_of k s.width s.height))
        ≡ words_of (without n (view k slots store)) ++ drop (total (without n (told k slots))) store
    pub later : behind n (told k slots) ≡ total (told k slots) - (s.start + area_of k s.width s.height)

  pub spot : (s : Slot) → slot_for n slots ≡ Some s → Spot s
  spot s e =
      let us : List Whole = view k slots store in
      let cs : List Card = cards us in
      let o : Old n 0 us s = old_of n 0 (64 - length cs) us s rep.formed.apart (ap (slot_for n) (sym rep.formed.slots-are) ∙ e) in
      let A : List ℕ = words_of o.xs in
      let B : List ℕ = o.v.words in
      let C : List ℕ = words_of o.ys in
      let R : List ℕ = drop (total cs) store in
      let a : ℕ = total (cards o.xs) in
      let b : ℕ = length B in
      let c : ℕ = total (cards o.ys) in
      let split : cs ≡ cards o.xs ++ (card o.v ∷ cards o.ys) = ap cards o.is ∙ cards-append o.xs (o.v ∷ o.ys) in
      let old : Sized k (card o.v) = all_mid (Sized k) (cards o.xs) (card o.v) (cards o.ys) (rw split at rep.formed.sized) in
      let start : s.start ≡ a = ap (λ (x : Slot). x.start) o.slot ∙ zero-add a in
      let area : area_of k s.width s.height ≡ b = ap (λ (x : Slot). area_of k x.width x.height) o.slot ∙ sym old.size in
      let sum : total (told k slots) ≡ a + (b + c) = total-is ∙ ap total split ∙ total-append (cards o.xs) (card o.v ∷ cards o.ys) in
      let rest : total (without n (told k slots)) ≡ a + c =
      ap (λ (l : List Card). total (without n l)) (sym (view-told k slots store long ok)) ∙ ap total (sym (cards-without n us) ∙ ap cards o.gone ∙ cards-append o.xs o.ys)
      ∙ total-append (cards o.xs) (cards o.ys) in
      let is : store ≡ A ++ (B ++ (C ++ R)) =
      rep.words_are ∙ ap (λ (l : List ℕ). l ++ R) (ap words_of o.is ∙ words_of-append o.xs (o.v ∷ o.ys)) ∙ append_assoc A (B ++ C) R ∙ ap (λ (l : List ℕ). A ++ l) (append_assoc B C R) in
      let more : total (told k slots) - (a + b) ≡ c = omega arith in
      record {
        sides = rw o.slot old.sides;
        inside = omega arith;
        left = omega arith;
        closed = rw (start, area, more, o.gone, words_of-append o.xs o.ys, rest) (close A B C R store a b c is (length-words_of o.xs) refl (length-words_of o.ys));
        later = rw (start, area) (ap (behind n) (sym (view-told k slots store long ok)) ∙ o.later ∙ sym more);
      }

  -- rule 8.8: a number that is held moves the words from the end of its old upload to the end of all
  pub moves_behind : (s : Slot) → slot_for n slots ≡ Some s → behind n (told k slots) ≡ total (told k slots) - (s.start + area_of k s.width s.height)
  moves_behind s e = (spot s e).later

  pub put_old : (ws st : List ℕ) (s : Slot) (size others : ℕ) → slot_for n slots ≡ Some s → size ≡ area_of k s.width s.height → others ≡ total (without n (told k slots))
      → st ≡ paste store s.start (drop (s.start + size) store) (others + size - (s.start + size)) → over (others + size) (take others st ++ ws) st ≡ words_after n ws (view k slots store) store
  put_old ws st s size others e p q h =
      let us : List Whole = view k slots store in
      let o : Spot s = spot s e in
      let end : others + size ≡ total (told k slots) = omega (arith, o.left) in
      let same : total (cards (without n us)) ≡ total (without n (told k slots)) = ap total (cards-without n us) ∙ ap (λ (l : List Card). total (without n l)) (view-told k slots store long ok) in
      last n ws us store st others (others + size) (end ∙ total-is) (q ∙ sym same) (omega arith) (h ∙ rw (end, p, q) o.closed)

-- A loop that walks the slots: what a definition of `specs/Slots.antt` says of the slots from index i on, by the slot at i and those from i + 1 on.
-- `others` builds its slots as it goes, so its turns, and those of `used_by_others`, speak of the slots up to i. Assumes nothing.
use Prim.Native.Nat.{ℕ, suc, ◌+◌, ◌-◌, ◌≤◌, ◌<◌}
use mathlib.Core.Path.{◌≡◌, refl, sym, ap, ◌∙◌}
use mathlib.Core.Bool.{Bool, true, false, cond, not, ◌&&◌}
use mathlib.Core.List.{List, [], ◌∷◌, ◌++◌, append_assoc, append-nil}
use native.Mathlib.Omega.{arith}
use native.Mathlib.Numerals.{add-one}
use native.Mathlib.Nat.{add-zero, zero-add, mul-le-mul}
use lib.ListN.{length, take, drop, get_or, set, replicate, drop_of_length-le, length-append, length-replicate, take-append-drop}
use lib.Seq.{drop-cons, take-suc, length-take-le, set_at}
use lib.Dec.{eqb, leb, ltb}
use borrow.Author.Tests.{eq-eqb, ne_eqb, leb-true}
use Rattle.laws.proofs.Bools.{and_left, and_right}
use Rattle.store.proofs.Laws.{without-append, length_without, total-append, total-without}
use Rattle.store.specs.Uploads.{Card, without, holds, total}
use Rattle.store.specs.Slots.{area_of, sides_ok, no_slot, slot_of, place, slots_of, card_at, told, slot_for, stays, fresh, zero_slot, unused, held_ok, slots_ok}
use Rattle.store.specs.declared.Slot.{Slot}
use Rattle.store.specs.declared.Kind.{Kind}
use Rattle.store.specs.declared.Kind.TheVariants.{Texture, Model}
use Rattle.std.specs.Prelude.{Option, Some, None}

-- ---- slots back to back
pub place-append : (at : ℕ) (xs ys : List Card) → place at (xs ++ ys) ≡ place at xs ++ place (at + total xs) ys
place-append at [] ys = ap (λ (n : ℕ). place n ys) (sym (add-zero at))
place-append at (x ∷ xs) ys =
    let sum : at + x.words + total xs ≡ at + (x.words + total xs) = omega arith in
    ap (λ (l : List Slot). slot_of at x ∷ l) (place-append (at + x.words) xs ys ∙ ap (λ (n : ℕ). place (at + x.words) xs ++ place n ys) sum)

pub length-place : (at : ℕ) (cs : List Card) → length (place at cs) ≡ length cs
length-place at [] = refl
length-place at (c ∷ cs) = ap suc (length-place (at + c.words) cs)

pub length-slots_of : (cs : List Card) → length cs ≤ 64 → length (slots_of cs) ≡ 64
length-slots_of cs h = omega (arith, length-append (place 0 cs) (replicate (64 - length cs) no_slot), length-place 0 cs, length-replicate (64 - length cs) no_slot)

-- the slot of one more
pub slots_last : (cs : List Card) (c : Card) (i at : ℕ) → i ≡ length cs → at ≡ total cs → i < 64 → set (slots_of cs) i (slot_of at c) ≡ slots_of (cs ++ (c ∷ []))
slots_last cs c i at p q h =
    let m : ℕ = 64 - suc (length cs) in
    let here : 64 - length cs ≡ suc m = omega arith in
    let left : 64 - length (cs ++ (c ∷ [])) ≡ m = omega (arith, length-append cs (c ∷ [])) in
    rw (p, q, here, left, place-append 0 cs (c ∷ []), zero-add (total cs), append_assoc)
    (set_at (place 0 cs) no_slot (replicate m no_slot) (slot_of (total cs) c) (length cs) (length-place 0 cs))

-- ---- what slots say
told-append : (k : Kind) (xs ys : List Slot) → told k (xs ++ ys) ≡ told k xs ++ told k ys
told-append k [] ys = refl
told-append k (x ∷ xs) ys = go x.held (told-append k xs ys)
  where
    go : (b : Bool) → told k (xs ++ ys) ≡ told k xs ++ told k ys → cond b (card_at k x ∷ told k (xs ++ ys)) (told k (xs ++ ys)) ≡ cond b (card_at k x ∷ told k xs) (told k xs) ++ told k ys
    go true ih = ap (λ (l : List Card). card_at k x ∷ l) ih
    go false ih = ih

pub length-told : (k : Kind) (ss : List Slot) → length (told k ss) ≤ length ss
length-told k [] = omega arith
length-told k (s ∷ ss) = go s.held (length-told k ss)
  where
    go : (b : Bool) → length (told k ss) ≤ length ss → length (cond b (card_at k s ∷ told k ss) (told k ss)) ≤ suc (length ss)
    go true ih = omega arith
    go false ih = omega arith

-- ---- the search finds a number exactly if a held slot has it
abbrev is_found : Option Slot → Bool
is_found (Some s) = true
is_found None = false

found_holds : (k : Kind) (n : ℕ) (ss : List Slot) → holds n (told k ss) ≡ is_found (slot_for n ss)
found_holds k n [] = refl
found_holds k n (s ∷ ss) = go s.held (eqb s.number n) refl (found_holds k n ss)
  where
    go : (a b : Bool) → eqb s.number n ≡ b → holds n (told k ss) ≡ is_found (slot_for n ss)
        → holds n (cond a (card_at k s ∷ told k ss) (told k ss)) ≡ is_found (cond (a && b) (Some s) (slot_for n ss))
    go true true e ih = rw e
    go true false e ih = rw e ih
    go false b e ih = ih

pub none-holds : (k : Kind) (n : ℕ) (ss : List Slot) → slot_for n ss ≡ None → holds n (told k ss) ≡ false
none-holds k n ss e = found_holds k n ss ∙ ap is_found e

-- the cards of the numbers other than n, up to index i
abbrev pub kept : Kind → ℕ → ℕ → List Slot → List Card
kept k n i ss = without n (told k (take i ss))

pub kept_count : (k : Kind) (n i : ℕ) (ss : List Slot) → i ≤ length ss → length (kept k n i ss) ≤ i
kept_count k n i ss h = omega (arith, length_without n (told k (take i ss)), length-told k (take i ss), length-take-le i ss h)

pub kept-total : (k : Kind) (n i : ℕ) (ss : List Slot) → total (kept k n i ss) ≤ total (told k ss)
kept-total k n i ss =
    omega (
      arith,
      total-without n (told k (take i ss)),
      ap (λ (l : List Slot). total (told k l)) (take-append-drop i ss),
      ap total (told-append k (take i ss) (drop i ss)),
      total-append (told k (take i ss)) (told k (drop i ss)),
    )

-- ---- the slot at i
module _ (ss : List Slot) (i : ℕ) (here : i < length ss) where
  abbrev s : Slot
  s = get_or ss i no_slot

  pub slots-from : drop i ss ≡ s ∷ drop (i + 1) ss
  slots-from = drop-cons ss i no_slot here ∙ ap (λ (n : ℕ). s ∷ drop n ss) (sym (add-one i))

  -- used_by_others, others
  kept_next : (k : Kind) (n : ℕ) → kept k n (i + 1) ss ≡ kept k n i ss ++ without n (told k (s ∷ []))
  kept_next k n =
      rw (add-one, take-suc ss i no_slot)
      (ap (without n) (told-append k (take i ss) (s ∷ [])) ∙ without-append n (told k (take i ss)) (told k (s ∷ [])))

  pub kept_step : (k : Kind) (n : ℕ) → kept k n (i + 1) ss ≡ cond (stays n s) (kept k n i ss ++ (card_at k s ∷ [])) (kept k n i ss)
  kept_step k n = kept_next k n ∙ go s.held (eqb s.number n) refl
    where
      go : (a b : Bool) → eqb s.number n ≡ b
          → kept k n i ss ++ without n (cond a (card_at k s ∷ []) []) ≡ cond (a && not b) (kept k n i ss ++ (card_at k s ∷ [])) (kept k n i ss)
      go false b e = append-nil (kept k n i ss)
      go true true e = rw e (append-nil (kept k n i ss))
      go true false e = rw e

  -- the crate formed: fresh, unused
  pub fresh_end : (n : ℕ) → s.held ≡ false → fresh n (drop i ss) ≡ true
  fresh_end n a = rw (slots-from, a)

  pub fresh_not : (n : ℕ) → s.held ≡ true → s.number ≡ n → fresh n (drop i ss) ≡ false
  fresh_not n a b = rw (slots-from, a, eq-eqb _ _ b)

  pub fresh_next : (n : ℕ) → s.held ≡ true → (s.number ≡ n → ⊥) → fresh n (drop i ss) ≡ fresh n (drop (i + 1) ss)
  fresh_next n a b = rw (slots-from, a, ne_eqb _ _ b)

  pub unused-is : unused (drop i ss) ≡ cond (zero_slot s) (unused (drop (i + 1) ss)) false
  unused-is = ap unused slots-from

  -- the whole test of slots
  pub ok_unheld : (k : Kind) (size at : ℕ) → s.held ≡ false → slots_ok k size at (drop i ss) ≡ (unused (drop i ss) && leb at size)
  ok_unheld k size at a = rw (slots-from, a)

  pub ok_no : (k : Kind) (size at : ℕ) → s.held ≡ true → held_ok k at s (drop (i + 1) ss) ≡ false → slots_ok k size at (drop i ss) ≡ false
  ok_no k size at a e = rw (slots-from, a, e)

pub slots_end : (ss : List Slot) (i : ℕ) → length ss ≤ i → drop i ss ≡ []
slots_end ss i h = drop_of_length-le ss h

-- an upload takes at most 524,288 words
pub area-most : (k : Kind) (w h : ℕ) → sides_ok k w h ≡ true → area_of k w h ≤ 524288
area-most Texture w h e =
    let a : Bool = ltb 0 w in
    let b : Bool = leb w 1024 in
    let c : Bool = ltb 0 h in
    let d : Bool = leb h 1024 in
    let p : w ≤ 1024 = leb-true w 1024 (and_right a b (and_left (a && b) (c && d) e)) in
    let q : h ≤ 1024 = leb-true h 1024 (and_right c d (and_right (a && b) (c && d) e)) in
    omega (arith, mul-le-mul p q)
area-most Model n h e =
    let a : Bool = ltb 0 n in
    let b : Bool = leb n 18724 in
    omega (arith, leb-true n 18724 (and_right a b (and_left (a && b) (eqb h 0) e)))

-- ---- the turns of `used_by_others`
-- the slots up to i are done: `count` of them are of other numbers, with `sum` words
pub record Tally (k : Kind) (n : ℕ) (ss : List Slot) (i count sum : ℕ) : Type 0 where
  pub within : i ≤ 64
  pub long : length ss ≡ 64
  pub count_is : count ≡ length (kept k n i ss)
  pub sum_is : sum ≡ total (kept k n i ss)

module _ {k : Kind} {n : ℕ} {ss : List Slot} {i : ℕ} {count sum : ℕ} (p : Tally k n ss i count sum) where
  pub tally_count : count ≤ i
  tally_count = omega (arith, p.count_is, kept_count k n i ss (omega (arith, p.within, p.long)))

  pub tally_sum : sum ≤ total (told k ss)
  tally_sum = omega (arith, p.sum_is, kept-total k n i ss)

  module _ (here : i < 64) where
    pub next_more : stays n (get_or ss i no_slot) ≡ true → kept k n (i + 1) ss ≡ kept k n i ss ++ (card_at k (get_or ss i no_slot) ∷ [])
    next_more e = rw e at (kept_step ss i (omega (arith, p.long)) k n)

    pub next_same : stays n (get_or ss i no_slot) ≡ false → kept k n (i + 1) ss ≡ kept k n i ss
    next_same e = rw e at (kept_step ss i (omega (arith, p.long)) k n)

    pub tally_more : (area : ℕ) → stays n (get_or ss i no_slot) ≡ true → area ≡ area_of k (get_or ss i no_slot).width (get_or ss i no_slot).height
        → Tally k n ss (i + 1) (count + 1) (sum + area)
    tally_more area e a =
        let cs : List Card = kept k n i ss in
        let one : List Card = card_at k (get_or ss i no_slot) ∷ [] in
        record {
          within = omega (arith, here);
          long = p.long;
          count_is = omega (arith, p.count_is, ap length (next_more e), length-append cs one);
          sum_is = omega (arith, p.sum_is, ap total (next_more e), total-append cs one);
        }

    pub tally_same : stays n (get_or ss i no_slot) ≡ false → Tally k n ss (i + 1) count sum
    tally_same e = record { within = omega (arith, here); long = p.long; count_is = rw (next_same e) p.count_is; sum_is = rw (next_same e) p.sum_is }

-- ---- the turns of `others`
-- and the cards of the other numbers are in `out`
pub record Packed (k : Kind) (n : ℕ) (ss : List Slot) (i : ℕ) (out : List Slot) (count sum : ℕ) : Type 0 where
  pub tally : Tally k n ss i count sum
  pub slots : out ≡ slots_of (kept k n i ss)

module _ {k : Kind} {n : ℕ} {ss : List Slot} {i : ℕ} {out : List Slot} {count sum : ℕ} (p : Packed k n ss i out count sum) where
  module _ (here : i < 64) where
    pub packed_more : (area : ℕ) → stays n (get_or ss i no_slot) ≡ true → area ≡ area_of k (get_or ss i no_slot).width (get_or ss i no_slot).height
        → Packed k n ss (i + 1) (set out count (slot_of sum (card_at k (get_or ss i no_slot)))) (count + 1) (sum + area)
    packed_more area e a = record {
      tally = tally_more p.tally here area e a;
      slots = rw (p.slots, next_more p.tally here e)
          (slots_last (kept k n i ss) (card_at k (get_or ss i no_slot)) count sum p.tally.count_is p.tally.sum_is (omega (arith, tally_count p.tally)));
    }

    pub packed_same : stays n (get_or ss i no_slot) ≡ false → Packed k n ss (i + 1) out count sum
    packed_same e = record { tally = tally_same p.tally here e; slots = rw (next_same p.tally here e) p.slots }

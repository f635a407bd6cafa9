-- Laws of `specs/Uploads.antt`. Assumes nothing.
use Prim.Native.Nat.{ℕ, suc, ◌+◌, ◌≤◌, ◌<◌}
use mathlib.Core.Path.{◌≡◌, refl, sym, ap, ◌∙◌}
use mathlib.Core.Bool.{Bool, true, false, cond, not, ◌&&◌, true≢false, false≢true}
use mathlib.Core.Option.{Option, none, some}
use mathlib.Core.List.{List, [], ◌∷◌, ◌++◌, append_assoc, append-nil}
use native.Mathlib.Omega.{arith}
use lib.ListN.{length, length-append}
use lib.Dec.{eqb, leb, ltb}
use borrow.Author.Tests.{eqb-true, eqb-false, ne_eqb, lt-leb, leb-false, ltb-false}
use Rattle.store.specs.Uploads.{Upload, Whole, Card, card, cards, without, find, is_some, holds, words_of, total, stored, live, counted, room}
use Rattle.store.specs.declared.NoRoom.{NoRoom}
use Rattle.store.specs.declared.NoRoom.TheVariants.{NoSlot, NoWords}
use Rattle.std.specs.Prelude.{Result, Ok, Err, ⊤}

-- two numbers by a test of each against a third
eqb_same : (a b n : ℕ) → a ≡ b → eqb a n ≡ eqb b n
eqb_same a b n p = ap (λ (x : ℕ). eqb x n) p

eqb_apart : (a b n : ℕ) → eqb a b ≡ false → eqb a n ≡ true → eqb b n ≡ false
eqb_apart a b n p q = ne_eqb b n λ r. eqb-false a b p (eqb-true a n q ∙ sym r)

eqb_sym_false : (a b : ℕ) → eqb a b ≡ false → eqb b a ≡ false
eqb_sym_false a b e = ne_eqb b a λ p. eqb-false a b e (sym p)

module _ {W : Type 0} where
  -- no number is there twice
  abbrev pub Apart : List (Upload W) → Type 0
  Apart [] = Unit {0}
  Apart (u ∷ us) = (holds u.number us ≡ false) × Apart us

  -- P of each
  abbrev pub All : (Upload W → Type 0) → List (Upload W) → Type 0
  All P [] = Unit {0}
  All P (u ∷ us) = P u × All P us

  -- what is under n once u is stored: u itself, or what was there
  pub find-stored : (n : ℕ) (u : Upload W) (us : List (Upload W)) → find n (stored u us) ≡ cond (eqb u.number n) (some u) (find n us)
  find-stored n u [] = refl
  find-stored n u (v ∷ us) = go (eqb v.number u.number) refl (find-stored n u us)
    where
      same : (b : Bool) → cond b (some u) (find n us) ≡ cond b (some u) (cond b (some v) (find n us))
      same true = refl
      same false = refl

      other : (b c : Bool) → (b ≡ true → c ≡ false) → cond b (some v) (cond c (some u) (find n us)) ≡ cond c (some u) (cond b (some v) (find n us))
      other true true h = absurd (true≢false (h refl))
      other true false h = refl
      other false c h = refl

      go : (b : Bool) → eqb v.number u.number ≡ b
          → find n (stored u us) ≡ cond (eqb u.number n) (some u) (find n us)
          → find n (cond b (without u.number us) (v ∷ without u.number us) ++ (u ∷ []))
          ≡ cond (eqb u.number n) (some u) (cond (eqb v.number n) (some v) (find n us))
      go true e ih = ih ∙ rw (eqb_same v.number u.number n (eqb-true _ _ e)) (same (eqb u.number n))
      go false e ih = rw ih (other (eqb v.number n) (eqb u.number n) (eqb_apart v.number u.number n e))

  -- the last accepted upload under n is what is under n among the live ones
  pub find-live : (n : ℕ) (h : List (Upload W)) → find n (live h) ≡ find n h
  find-live n [] = refl
  find-live n (u ∷ h) = find-stored n u (live h) ∙ ap (λ (o : Option (Upload W)). cond (eqb u.number n) (some u) o) (find-live n h)

  -- ---- what `without` leaves
  pub without-append : (n : ℕ) (us vs : List (Upload W)) → without n (us ++ vs) ≡ without n us ++ without n vs
  without-append n [] vs = refl
  without-append n (u ∷ us) vs = go (eqb u.number n) (without-append n us vs)
    where
      go : (b : Bool) → without n (us ++ vs) ≡ without n us ++ without n vs
          → cond b (without n (us ++ vs)) (u ∷ without n (us ++ vs)) ≡ cond b (without n us) (u ∷ without n us) ++ without n vs
      go true ih = ih
      go false ih = ap (λ (l : List (Upload W)). u ∷ l) ih

  pub without-none : (n : ℕ) (us : List (Upload W)) → holds n us ≡ false → without n us ≡ us
  without-none n [] h = refl
  without-none n (u ∷ us) h = go (eqb u.number n) h (without-none n us)
    where
      go : (b : Bool) → is_some (cond b (some u) (find n us)) ≡ false → (holds n us ≡ false → without n us ≡ us) → cond b (without n us) (u ∷ without n us) ≡ u ∷ us
      go true p ih = absurd (true≢false p)
      go false p ih = ap (λ (l : List (Upload W)). u ∷ l) (ih p)

  without_twice : (n : ℕ) (us : List (Upload W)) → without n (without n us) ≡ without n us
  without_twice n [] = refl
  without_twice n (u ∷ us) = go (eqb u.number n) refl (without_twice n us)
    where
      go : (b : Bool) → eqb u.number n ≡ b → without n (without n us) ≡ without n us → without n (cond b (without n us) (u ∷ without n us)) ≡ cond b (without n us) (u ∷ without n us)
      go true e ih = ih
      go false e ih = rw (e, ih)

  without_swap : (n m : ℕ) (us : List (Upload W)) → without n (without m us) ≡ without m (without n us)
  without_swap n m [] = refl
  without_swap n m (u ∷ us) = go (eqb u.number n) (eqb u.number m) refl refl (without_swap n m us)
    where
      go : (a b : Bool) → eqb u.number n ≡ a → eqb u.number m ≡ b → without n (without m us) ≡ without m (without n us)
          → without n (cond b (without m us) (u ∷ without m us)) ≡ without m (cond a (without n us) (u ∷ without n us))
      go true true p q ih = ih
      go true false p q ih = rw p ih
      go false true p q ih = rw q ih
      go false false p q ih = rw (p, q, ih)

  -- what a history leaves of the other numbers is what their own history leaves
  pub live-without : (n : ℕ) (h : List (Upload W)) → without n (live h) ≡ live (without n h)
  live-without n [] = refl
  live-without n (u ∷ h) = without-append n (without u.number (live h)) (u ∷ []) ∙ go (eqb u.number n) refl (live-without n h)
    where
      go : (b : Bool) → eqb u.number n ≡ b → without n (live h) ≡ live (without n h)
          → without n (without u.number (live h)) ++ cond b [] (u ∷ []) ≡ live (cond b (without n h) (u ∷ without n h))
      go true e ih =
          append-nil (without n (without u.number (live h))) ∙ ap (λ (k : ℕ). without n (without k (live h))) (eqb-true u.number n e) ∙ without_twice n (live h) ∙ ih
      go false e ih = ap (λ (l : List (Upload W)). l ++ (u ∷ [])) (without_swap n u.number (live h) ∙ ap (without u.number) ih)

  pub length_without : (n : ℕ) (us : List (Upload W)) → length (without n us) ≤ length us
  length_without n [] = omega arith
  length_without n (u ∷ us) = go (eqb u.number n) (length_without n us)
    where
      go : (b : Bool) → length (without n us) ≤ length us → length (cond b (without n us) (u ∷ without n us)) ≤ suc (length us)
      go true ih = omega arith
      go false ih = omega arith

  -- at least one goes if the number is held
  length-without-held : (n : ℕ) (us : List (Upload W)) → holds n us ≡ true → length (without n us) < length us
  length-without-held n [] h = absurd (false≢true h)
  length-without-held n (u ∷ us) h = go (eqb u.number n) h (length-without-held n us)
    where
      go : (b : Bool) → is_some (cond b (some u) (find n us)) ≡ true → (holds n us ≡ true → length (without n us) < length us)
          → length (cond b (without n us) (u ∷ without n us)) < suc (length us)
      go true h ih = omega (arith, length_without n us)
      go false h ih = omega (arith, ih h)

  -- of at most 64, a new number has no slot exactly if the other numbers hold 64
  pub slot_beside : (n : ℕ) (us : List (Upload W)) → length us ≤ 64 → (not (holds n us) && leb 64 (length us)) ≡ leb 64 (length (without n us))
  slot_beside n us few = go (holds n us) refl
    where
      go : (b : Bool) → holds n us ≡ b → (not b && leb 64 (length us)) ≡ leb 64 (length (without n us))
      go true e = sym (lt-leb 64 (length (without n us)) (omega (arith, length-without-held n us e)))
      go false e = rw (without-none n us e)

  -- ---- `All` and `Apart` after an upload
  pub all-stored : (P : Upload W → Type 0) (u : Upload W) (us : List (Upload W)) → P u → All P us → All P (stored u us)
  all-stored P u [] p h = (p, tt)
  all-stored P u (v ∷ us) p h = go (eqb v.number u.number) (all-stored P u us p h.1)
    where
      go : (b : Bool) → All P (stored u us) → All P (cond b (without u.number us) (v ∷ without u.number us) ++ (u ∷ []))
      go true ih = ih
      go false ih = (h.0, ih)

  pub all_mid : (P : Upload W → Type 0) (xs : List (Upload W)) (v : Upload W) (ys : List (Upload W)) → All P (xs ++ (v ∷ ys)) → P v
  all_mid P [] v ys a = a.0
  all_mid P (x ∷ xs) v ys a = all_mid P xs v ys a.1

  pub apart-stored : (u : Upload W) (us : List (Upload W)) → Apart us → Apart (stored u us)
  apart-stored u [] h = (refl, tt)
  apart-stored u (v ∷ us) h = go (eqb v.number u.number) refl (apart-stored u us h.1)
    where
      go : (b : Bool) → eqb v.number u.number ≡ b → Apart (stored u us) → Apart (cond b (without u.number us) (v ∷ without u.number us) ++ (u ∷ []))
      go true e ih = ih
      go false e ih = (rw (find-stored v.number u us, eqb_sym_false v.number u.number e) h.0, ih)

  pub length-stored : (u : Upload W) (us : List (Upload W)) → length (stored u us) ≡ suc (length (without u.number us))
  length-stored u us = omega (arith, length-append (without u.number us) (u ∷ []))

-- ---- cards of uploads: what is done to the uploads is done to their cards
pub cards-append : (us vs : List Whole) → cards (us ++ vs) ≡ cards us ++ cards vs
cards-append [] vs = refl
cards-append (u ∷ us) vs = ap (λ (l : List Card). card u ∷ l) (cards-append us vs)

pub cards-without : (n : ℕ) (us : List Whole) → cards (without n us) ≡ without n (cards us)
cards-without n [] = refl
cards-without n (u ∷ us) = go (eqb u.number n) (cards-without n us)
  where
    go : (b : Bool) → cards (without n us) ≡ without n (cards us) → cards (cond b (without n us) (u ∷ without n us)) ≡ cond b (without n (cards us)) (card u ∷ without n (cards us))
    go true ih = ih
    go false ih = ap (λ (l : List Card). card u ∷ l) ih

pub cards-stored : (u : Whole) (us : List Whole) → cards (stored u us) ≡ stored (card u) (cards us)
cards-stored u us = cards-append (without u.number us) (u ∷ []) ∙ ap (λ (l : List Card). l ++ (card u ∷ [])) (cards-without u.number us)

-- ---- sums
pub total-append : (cs ds : List Card) → total (cs ++ ds) ≡ total cs + total ds
total-append [] ds = omega arith
total-append (c ∷ cs) ds = omega (arith, total-append cs ds)

pub total-without : (n : ℕ) (cs : List Card) → total (without n cs) ≤ total cs
total-without n [] = omega arith
total-without n (c ∷ cs) = go (eqb c.number n) (total-without n cs)
  where
    go : (b : Bool) → total (without n cs) ≤ total cs → total (cond b (without n cs) (c ∷ without n cs)) ≤ c.words + total cs
    go true ih = omega arith
    go false ih = omega arith

-- the words that go: those of the upload that is found
abbrev pub words_in : Option Whole → ℕ
words_in none = 0
words_in (some u) = length u.words

pub total_found : (n : ℕ) (us : List Whole) → total (cards (without n us)) + words_in (find n us) ≤ total (cards us)
total_found n [] = omega arith
total_found n (u ∷ us) = go (eqb u.number n) (total_found n us)
  where
    go : (b : Bool) → total (cards (without n us)) + words_in (find n us) ≤ total (cards us)
        → total (cards (cond b (without n us) (u ∷ without n us))) + words_in (cond b (some u) (find n us)) ≤ length u.words + total (cards us)
    go true ih = omega (arith, ap total (cards-without n us), total-without n (cards us))
    go false ih = omega arith

pub total-stored : (c : Card) (cs : List Card) → total (stored c cs) ≡ total (without c.number cs) + c.words
total-stored c cs = omega (arith, total-append (without c.number cs) (c ∷ []))

pub words_of-append : (us vs : List Whole) → words_of (us ++ vs) ≡ words_of us ++ words_of vs
words_of-append [] vs = refl
words_of-append (u ∷ us) vs = rw (words_of-append us vs, append_assoc)

pub length-words_of : (us : List Whole) → length (words_of us) ≡ total (cards us)
length-words_of [] = refl
length-words_of (u ∷ us) = length-append u.words (words_of us) ∙ ap (λ (n : ℕ). length u.words + n) (length-words_of us)

-- ---- what the answer that there is room gives: the new words fit beside the other numbers', and so does the slot
pub record Space (size : ℕ) (cs : List Card) (n new : ℕ) : Type 0 where
  pub words : total (without n cs) + new ≤ size
  pub slot : length (without n cs) < 64

pub space : (size : ℕ) (cs : List Card) (n new : ℕ) → length cs ≤ 64 → room size cs n new ≡ Ok _ → Space size cs n new
space size cs n new few h = go (not (holds n cs) && leb 64 (length cs)) (ltb size (counted n cs + new)) refl refl h
  where
    go : (a b : Bool) → (not (holds n cs) && leb 64 (length cs)) ≡ a → ltb size (counted n cs + new) ≡ b → ◌≡◌ {A = Result ⊤ NoRoom} (cond a (Err NoSlot) (cond b (Err NoWords) (Ok _))) (Ok _) → Space size cs n new
    go true b e f h = absurd (let z : ◌≡◌ {A = ℕ} 0 1 = cc in omega arith)
    go false true e f h = absurd (let z : ◌≡◌ {A = ℕ} 0 1 = cc in omega arith)
    go false false e f h = record { words = omega (arith, ltb-false size (counted n cs + new) f); slot = omega (arith, leb-false 64 (length (without n cs)) (sym (slot_beside n cs few) ∙ e)) }

-- Each clause of "well formed" about slots decides by itself, of a store's slots and length alone. Assumes nothing.
use Prim.Native.Nat.{ℕ, zero, suc, ◌+◌, ◌<◌}
use mathlib.Core.Path.{◌≡◌, refl, sym, ap, ◌∙◌}
use mathlib.Core.Bool.{Bool, true, false, cond, not, ◌&&◌, and-false, true≢false}
use mathlib.Core.List.{List, [], ◌∷◌}
use native.Mathlib.Omega.{arith}
use borrow.Author.Tests.{ne_eqb, le-leb, lt-leb, not-true}
use lib.Dec.{eqb, leb}
use lib.ListN.{length, take, drop, get_or}
use Rattle.store.specs.declared.Slot.{Slot}
use Rattle.store.specs.declared.Kind.{Kind}
use Rattle.store.specs.declared.Kind.TheVariants.{Texture}
use Rattle.store.specs.Uploads.{total}
use Rattle.store.specs.Slots.{area_of, sides_ok, no_slot, told, fresh, zero_slot, unused, held_ok, slots_ok}
use Rattle.laws.proofs.Bools.{and_left, cond_both}
use Rattle.state.specs.Clauses.{Side, wide, high, side, Field, number, width, height, start, field}
use Rattle.store.proofs.Walk.{unused-is, ok_unheld, ok_no, fresh_not}

-- ---- slots: something is wrong with the first of them, or behind it
neither : (b : Bool) → cond b false false ≡ false
neither true = refl
neither false = refl

unused_cons : (x : Slot) (xs : List Slot) → unused xs ≡ false → unused (x ∷ xs) ≡ false
unused_cons x xs e = rw e (neither (zero_slot x))

-- a held slot is not unused
unused-held : (l : List Slot) (i : ℕ) → i < length l → (get_or l i no_slot).held ≡ true → unused l ≡ false
unused-held [] i h e = absurd (omega arith)
unused-held (x ∷ xs) zero h e = rw e
unused-held (x ∷ xs) (suc i) h e = unused_cons x xs (unused-held xs i (omega arith) e)

unused_free : (x : Slot) (xs : List Slot) → unused (x ∷ xs) ≡ true → x.held ≡ false
unused_free x xs e =
    not-true x.held
    (and_left (not x.held) ((eqb x.number 0 && eqb x.width 0) && (eqb x.height 0 && eqb x.start 0)) (cond_both (zero_slot x) (unused xs) e).0)

not_first : (b y : Bool) → cond b false y ≡ true → y ≡ true
not_first true y e = absurd (true≢false (sym e))
not_first false y e = e

module _ (k : Kind) (size : ℕ) where
  held_not : (at : ℕ) (x : Slot) (xs : List Slot) → x.held ≡ true → slots_ok k size (at + area_of k x.width x.height) xs ≡ false → slots_ok k size at (x ∷ xs) ≡ false
  held_not at x xs h e = rw (h, e) (neither (held_ok k at x xs))

  unheld_not : (at : ℕ) (x : Slot) (xs : List Slot) → x.held ≡ false → unused (x ∷ xs) ≡ false → slots_ok k size at (x ∷ xs) ≡ false
  unheld_not at x xs h e = ok_unheld (x ∷ xs) 0 (omega arith) k size at h ∙ ap (λ (u : Bool). u && leb at size) e

  -- by the first slot
  by_first : (at : ℕ) (x : Slot) (xs : List Slot)
      → (x.held ≡ true → slots_ok k size (at + area_of k x.width x.height) xs ≡ false) → (x.held ≡ false → unused xs ≡ false) → slots_ok k size at (x ∷ xs) ≡ false
  by_first at x xs a b = go x.held refl
    where
      go : (t : Bool) → x.held ≡ t → slots_ok k size at (x ∷ xs) ≡ false
      go true e = held_not at x xs e (a e)
      go false e = unheld_not at x xs e (unused_cons x xs (b e))

  unused-ok : (l : List Slot) → unused l ≡ true → slots_ok k size 0 l ≡ true
  unused-ok [] e = le-leb 0 size (omega arith)
  unused-ok (x ∷ xs) e = ok_unheld (x ∷ xs) 0 (omega arith) k size 0 (unused_free x xs e) ∙ ap (λ (u : Bool). u && leb 0 size) e ∙ le-leb 0 size (omega arith)

  unused-told : (l : List Slot) → unused l ≡ true → told k l ≡ []
  unused-told [] e = refl
  unused-told (x ∷ xs) e = rw (unused_free x xs e) (unused-told xs (cond_both (zero_slot x) (unused xs) e).1)

  -- what is wrong from the slot at i on, wherever its area begins, is wrong with all
  behind : (i : ℕ) (l : List Slot) → ((at : ℕ) → slots_ok k size at (drop i l) ≡ false) → (at : ℕ) → slots_ok k size at l ≡ false
  behind zero l h at = h at
  behind (suc i) [] h at = h at
  behind (suc i) (x ∷ xs) h at = by_first at x xs (λ e. behind i xs h (at + area_of k x.width x.height)) (λ e. go (unused xs) refl (behind i xs h 0))
    where
      go : (b : Bool) → unused xs ≡ b → slots_ok k size 0 xs ≡ false → b ≡ false
      go true e f = absurd (true≢false (sym (unused-ok xs e) ∙ f))
      go false e f = refl

  -- ---- one clause decides
  module _ (l : List Slot) (i : ℕ) (here : i < length l) where
    abbrev at_i : Slot
    at_i = get_or l i no_slot

    pub slot_not_zero : at_i.held ≡ false → zero_slot at_i ≡ false → slots_ok k size 0 l ≡ false
    slot_not_zero h e =
        let not-unused : unused (drop i l) ≡ false = unused-is l i here ∙ rw e in
        behind i l (λ at. ok_unheld l i here k size at h ∙ ap (λ (u : Bool). u && leb at size) not-unused) 0

    pub sides_wrong : at_i.held ≡ true → sides_ok k at_i.width at_i.height ≡ false → slots_ok k size 0 l ≡ false
    sides_wrong h e = behind i l (λ at. ok_no l i here k size at h (rw e)) 0

  -- a held slot at j behind an unused one at i
  pub gap_wrong : (l : List Slot) (i j at : ℕ) → i < j → j < length l → (get_or l i no_slot).held ≡ false → (get_or l j no_slot).held ≡ true → slots_ok k size at l ≡ false
  gap_wrong [] i j at a b h e = absurd (omega arith)
  gap_wrong (x ∷ xs) i zero at a b h e = absurd (omega arith)
  gap_wrong (x ∷ xs) zero (suc j) at a b h e = unheld_not at x xs h (unused_cons x xs (unused-held xs j (omega arith) e))
  gap_wrong (x ∷ xs) (suc i) (suc j) at a b h e =
      by_first at x xs (λ z. gap_wrong xs i j (at + area_of k x.width x.height) (omega arith) (omega arith) h e) (λ z. unused-held xs j (omega arith) e)

  -- one number at i and at j: the search for it ends before j only if there is a gap
  ends_early : (n : ℕ) (l : List Slot) (j at : ℕ) → j < length l → (get_or l j no_slot).held ≡ true → (get_or l j no_slot).number ≡ n → fresh n l ≡ true → slots_ok k size at l ≡ false
  ends_early n [] j at b e d f = absurd (omega arith)
  ends_early n (x ∷ xs) zero at b e d f = absurd (true≢false (sym f ∙ fresh_not (x ∷ xs) 0 (omega arith) n e d))
  ends_early n (x ∷ xs) (suc j) at b e d f =
      by_first at x xs
      (λ h. ends_early n xs j (at + area_of k x.width x.height) (omega arith) e d (not_first (eqb x.number n) (fresh n xs) (rw h at f)))
      (λ h. unused-held xs j (omega arith) e)

  pub twice_wrong : (l : List Slot) (i j at : ℕ) → i < j → j < length l → (get_or l i no_slot).held ≡ true → (get_or l j no_slot).held ≡ true
      → (get_or l i no_slot).number ≡ (get_or l j no_slot).number → slots_ok k size at l ≡ false
  twice_wrong [] i j at a b h e d = absurd (omega arith)
  twice_wrong (x ∷ xs) i zero at a b h e d = absurd (omega arith)
  twice_wrong (x ∷ xs) zero (suc j) at a b h e d = go (fresh x.number xs) refl
    where
      go : (t : Bool) → fresh x.number xs ≡ t → slots_ok k size at (x ∷ xs) ≡ false
      go true f = held_not at x xs h (ends_early x.number xs j (at + area_of k x.width x.height) (omega arith) e (sym d) f)
      go false f = ok_no (x ∷ xs) 0 (omega arith) k size at h (rw f (simp and-false))
  twice_wrong (x ∷ xs) (suc i) (suc j) at a b h e d =
      by_first at x xs (λ z. twice_wrong xs i j (at + area_of k x.width x.height) (omega arith) (omega arith) h e d) (λ z. unused-held xs j (omega arith) e)

  -- an area that does not begin where those before it end
  pub start_wrong : (l : List Slot) (i at : ℕ) → i < length l → (get_or l i no_slot).held ≡ true → ((get_or l i no_slot).start ≡ at + total (told k (take i l)) → ⊥) → slots_ok k size at l ≡ false
  start_wrong [] i at b h n = absurd (omega arith)
  start_wrong (x ∷ xs) zero at b h n = ok_no (x ∷ xs) 0 (omega arith) k size at h (rw (ne_eqb x.start at (λ q. n (omega arith))) (simp and-false))
  start_wrong (x ∷ xs) (suc i) at b h n =
      by_first at x xs
      (λ e.
      let n' = rw e at n in
      start_wrong xs i (at + area_of k x.width x.height) (omega arith) h (λ q. n' (omega arith)))
      (λ e. unused-held xs i (omega arith) h)

  -- areas that end past the store
  pub end_wrong : (l : List Slot) (at : ℕ) → size < at + total (told k l) → slots_ok k size at l ≡ false
  end_wrong [] at h = lt-leb at size (omega arith)
  end_wrong (x ∷ xs) at h = go x.held (unused (x ∷ xs)) refl refl (end_wrong xs (at + area_of k x.width x.height))
    where
      go : (t u : Bool) → x.held ≡ t → unused (x ∷ xs) ≡ u
          → (size < at + area_of k x.width x.height + total (told k xs) → slots_ok k size (at + area_of k x.width x.height) xs ≡ false)
          → slots_ok k size at (x ∷ xs) ≡ false
      go true u e f ih =
          let past : size < at + (area_of k x.width x.height + total (told k xs)) = rw e at h in
          held_not at x xs e (ih (omega arith))
      go false true e f ih =
          let past : size < at = omega (arith, ap total (unused-told (x ∷ xs) f)) in
          ok_unheld (x ∷ xs) 0 (omega arith) k size at e ∙ ap (λ (u : Bool). u && leb at size) f ∙ lt-leb at size past
      go false false e f ih = unheld_not at x xs e f

-- ---- which sides are wrong, and which unused slots are not zero
pub texture_zero : (d : Side) (x : Slot) → side d x ≡ 0 → sides_ok Texture x.width x.height ≡ false
texture_zero wide x e = rw e
texture_zero high x e = rw e (simp and-false)

pub texture_large : (d : Side) (x : Slot) → 1024 < side d x → sides_ok Texture x.width x.height ≡ false
texture_large wide x h = rw (lt-leb x.width 1024 h) (simp and-false)
texture_large high x h = rw (lt-leb x.height 1024 h) (simp and-false)

pub not_zero : (f : Field) (x : Slot) → (field f x ≡ 0 → ⊥) → zero_slot x ≡ false
not_zero number x h = rw (ne_eqb x.number 0 h) (simp and-false)
not_zero width x h = rw (ne_eqb x.width 0 h) (simp and-false)
not_zero height x h = rw (ne_eqb x.height 0 h) (simp and-false)
not_zero start x h = rw (ne_eqb x.start 0 h) (simp and-false)

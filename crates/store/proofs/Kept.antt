-- One store against the history of its kind: what its slots and words contain is what the history leaves, they answer alike, and an accepted upload is one more in the history. Assumes nothing.
use Prim.Native.Nat.{ℕ, ◌+◌, ◌≤◌}
use mathlib.Core.Path.{◌≡◌, refl, ap, ◌∙◌}
use mathlib.Core.Bool.{true}
use mathlib.Core.Option.{some}
use mathlib.Core.List.{List, [], ◌∷◌}
use native.Mathlib.Omega.{arith}
use lib.ListN.{length, replicate}
use borrow.Author.Tests.{le-ltb}
use Rattle.store.specs.Uploads.{Whole, Card, card, cards, find, is_some, holds, without, live, total, room}
use Rattle.store.specs.Slots.{no_slot, told, view, slot_for, looked, slots_after, words_after, slots_ok}
use Rattle.store.specs.declared.Slot.{Slot}
use Rattle.store.specs.declared.Kind.{Kind}
use Rattle.std.specs.Prelude.{Ok}
use Rattle.store.proofs.Laws.{find-live, cards-without, words_in, total_found, space}
use Rattle.store.proofs.Held.{Sized, Formed, Rep, told_is, formed_stored, formed_ok, ok_formed, view-is, length-after, rep_stored}
use Rattle.store.proofs.Moved.{look_is, holds-cards}

-- an accepted upload keeps slots well formed: slots and the store's length alone
pub upload-ok : (k : Kind) (size : ℕ) (slots : List Slot) (c : Card) → length slots ≡ 64 → slots_ok k size 0 slots ≡ true → Sized k c
    → room size (told k slots) c.number c.words ≡ Ok _ → slots_ok k size 0 (slots_after c (told k slots)) ≡ true
upload-ok k size slots c n h s e =
    let f : Formed k size slots (told k slots) = ok_formed k size slots n h in
    formed_ok (formed_stored c f s (space size (told k slots) c.number c.words f.few e))

-- slots and words of a store of some length hold what a history leaves
pub record Keeps (k : Kind) (size : ℕ) (slots : List Slot) (store : List ℕ) (h : List Whole) : Type 0 where
  pub rep : Rep k slots store (live h)
  pub long : length store ≡ size

-- a reset store against the empty history
pub keeps_none : (k : Kind) (store : List ℕ) → Keeps k (length store) (replicate 64 no_slot) store []
keeps_none k store = record {
  rep = record { formed = record { slots-are = refl; sized = tt; apart = tt; few = omega arith; fits = omega arith }; words_are = refl };
  long = refl;
}

module _ {k : Kind} {size : ℕ} {slots : List Slot} {store : List ℕ} {h : List Whole} (e : Keeps k size slots store h) where
  -- the list of uploads is what the history leaves
  pub keeps_view : view k slots store ≡ live h
  keeps_view = view-is e.rep

  pub keeps_told : told k slots ≡ cards (live h)
  keeps_told = told_is e.rep.formed

  pub keeps_ok : slots_ok k size 0 slots ≡ true
  keeps_ok = rw (← e.long) (formed_ok e.rep.formed)

  -- what is found under a number is the last accepted upload
  pub keeps_look : (n : ℕ) → looked k store (slot_for n slots) ≡ find n h
  keeps_look n = look_is k n slots store ∙ ap (find n) keeps_view ∙ find-live n h

  -- there is no room by the slots exactly if there is none by the history
  pub keeps_room : (u : Whole) → room (length store) (told k slots) u.number (length u.words) ≡ room size (cards (live h)) u.number (length u.words)
  keeps_room u = rw (keeps_told, e.long)

  -- an upload that is no larger than the last accepted one under its number has room
  pub keeps_again : (n new : ℕ) (u : Whole) → find n h ≡ some u → new ≤ length u.words → room size (cards (live h)) n new ≡ Ok _
  keeps_again n new u f small =
      let found : find n (live h) ≡ some u = find-live n h ∙ f in
      let held : holds n (cards (live h)) ≡ true = holds-cards n (live h) ∙ ap is_some found in
      let left : total (without n (cards (live h))) + new ≤ size =
      omega (arith, total_found n (live h), ap words_in found, ap total (cards-without n (live h)), e.rep.formed.fits, e.long) in
      rw (held, le-ltb size (total (without n (cards (live h))) + new) left)

  -- an accepted upload is one more in the history
  pub keeps_put : (u : Whole) → Sized k (card u) → room size (cards (live h)) u.number (length u.words) ≡ Ok _
      → Keeps k size (slots_after (card u) (told k slots)) (words_after u.number u.words (view k slots store) store) (u ∷ h)
  keeps_put u s f =
      let left = space (length store) (cards (live h)) u.number (length u.words) e.rep.formed.few (rw e.long f) in
      record {
        rep = rw (keeps_told, keeps_view) (rep_stored u e.rep left s);
        long = rw keeps_view (length-after u e.rep left) ∙ e.long;
      }

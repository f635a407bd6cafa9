-- What is under a number, by the slot that is found: the upload, its sides, and its part of the words. For whoever draws from a store. Assumes nothing.
use Prim.Native.Nat.{ℕ, ◌+◌, ◌-◌, ◌≤◌}
use mathlib.Core.Path.{◌≡◌}
use mathlib.Core.Bool.{true}
use mathlib.Core.Option.{some}
use mathlib.Core.List.{List}
use native.Mathlib.Omega.{arith}
use lib.ListN.{length, take, drop, length-drop}
use lib.Seq.{length-take-le}
use Rattle.store.specs.Slots.{area_of, sides_ok, upload_at, slot_for, look_in, slots_ok}
use Rattle.store.specs.declared.Slot.{Slot}
use Rattle.store.specs.declared.Kind.{Kind}
use Rattle.std.specs.Prelude.{Some}
use Rattle.store.proofs.Moved.{total-fits, spot}

-- its part of the words
pub part_is : (store : List ℕ) (start size area : ℕ) → size ≡ area → take (start + size - start) (drop start store) ≡ take area (drop start store)
part_is store start size area e =
    let n : start + size - start ≡ area = omega arith in
    rw n

pub part_long : (store : List ℕ) (start size area : ℕ) → size ≡ area → start + area ≤ length store → length (take (start + size - start) (drop start store)) ≡ area
part_long store start size area e h = rw (part_is store start size area e) (length-take-le area (drop start store) (omega (arith, length-drop start store)))

module _ (k : Kind) (slots : List Slot) (store : List ℕ) (n : ℕ) where
  pub look_some : (slot : Slot) → slot_for n slots ≡ Some slot → look_in k slots store n ≡ some (upload_at k slot store)
  look_some slot e = rw e

  module _ (long : length slots ≡ 64) (ok : slots_ok k (length store) 0 slots ≡ true) (slot : Slot) (found : slot_for n slots ≡ Some slot) where
    pub sides-at : sides_ok k slot.width slot.height ≡ true
    sides-at = (spot k slots store n long ok slot found).sides

    pub inside-at : slot.start + area_of k slot.width slot.height ≤ length store
    inside-at = omega (arith, (spot k slots store n long ok slot found).inside, total-fits k slots store n long ok)

-- What the library's `all` answers, in the words of `specs/`. Assumes nothing.
use Rattle.std.proofs.Common.{◌≡◌, Bool, true, false, cond, ◌&&◌, List, [], ◌∷◌, refl}
use Rattle.std.specs.List.{list_all}
use Rattle.store.specs.Slots.{zero_slot, unused}
use Rattle.store.specs.declared.Slot.{Slot}

pub unused_all : (ss : List Slot) → unused ss ≡ list_all zero_slot ss
unused_all [] = refl
unused_all (s ∷ ss) = go (zero_slot s) (unused_all ss)
  where
    go : (b : Bool) → unused ss ≡ list_all zero_slot ss → cond b (unused ss) false ≡ (b && list_all zero_slot ss)
    go true ih = ih
    go false ih = refl

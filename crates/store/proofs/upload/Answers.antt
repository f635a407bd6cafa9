-- `store::upload` meets its contract: well-formed slots hold no more words than the store has, and an upload that has room has a slot. Assumes nothing.
use mathlib.Core.Path.{sym, ◌∙◌}
use native.Mathlib.Omega.{arith}
use borrow.Author.Rules.{rules}
use lib.ListN.{length}
use Rattle.store.specs.Slots.{told}
use Rattle.store.proofs.Laws.{Space, space}
use Rattle.store.proofs.Held.{Formed, ok_formed}
use Rattle.store.proofs.upload.Goals as goal
use Rattle.store.proofs.upload.Goals.{Start}

formed : (c : Start) → let a = c.args in Formed a.kind (length a.store.now) a.slots (told a.kind a.slots)
formed c = let a = c.args in
    ok_formed a.kind (length a.store.now) a.slots (search rules) c.requires.slots_value

pub invariant_of-shelf : goal.invariant_of-shelf
invariant_of-shelf c = record { in_range = omega (arith, (formed (goal.at.invariant_of-shelf c).Start).fits) }

pub slots_after-requires : goal.slots_after-requires
slots_after-requires c = let a = c.args in
    let left : Space (length a.store.now) (told a.kind a.slots) a.number (length a.words.now) = space (length a.store.now) (told a.kind a.slots) a.number (length a.words.now) (formed (goal.at.slots_after-requires c).Start).few (sym c.room_for.ensures ∙ c.in_ok-room_for.was) in
    omega arith

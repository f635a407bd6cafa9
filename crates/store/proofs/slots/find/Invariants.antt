-- `store::slots::find` meets its contract. The invariant: what is to be found is what is found from the index on. Assumes nothing.
use mathlib.Core.Path.{◌≡◌}
use lib.ListN.{drop}
use Rattle.store.specs.Slots.{slot_for}
use Rattle.store.proofs.slots.find.Given as goal

abbrev pub invariant-loop-s : goal.invariant-loop-s
invariant-loop-s l = slot_for l.number l.s-items ≡ slot_for l.number (drop l.s-index l.s-items)

-- `formed::fresh` meets its contract. The invariant: what is asked is what is asked from the index on. Assumes nothing.
use mathlib.Core.Path.{◌≡◌}
use lib.ListN.{drop}
use Rattle.store.specs.Slots.{fresh}
use Rattle.formed.proofs.fresh.Given as goal

abbrev pub invariant-loop-s : goal.invariant-loop-s
invariant-loop-s l = fresh l.number l.slots ≡ fresh l.number (drop l.s-index l.slots)

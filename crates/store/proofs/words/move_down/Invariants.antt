-- `store::words::move_down` meets its contract. If so many words are done, the store is the paste of as many that were from `from` on, and as many moves were made: what is read next lies beyond what has been written. Assumes nothing.
use mathlib.Core.Path.{◌≡◌}
use lib.ListN.{drop}
use lib.Seq.{paste}
use Rattle.store.proofs.words.move_down.Given as goal

abbrev pub invariant-loop-done : goal.invariant-loop-done
invariant-loop-done l = (l.moved ≡ l.done) × (l.store ≡ paste l.initial.store l.to (drop l.from l.initial.store) l.done)

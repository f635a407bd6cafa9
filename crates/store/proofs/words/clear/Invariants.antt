-- `store::words::clear` meets its contract. After i turns the store is the paste of i zeros. Assumes nothing.
use mathlib.Core.Path.{◌≡◌}
use lib.ListN.{replicate}
use lib.Seq.{paste}
use Rattle.store.proofs.words.clear.Given as goal

abbrev pub invariant-loop-i : goal.invariant-loop-i
invariant-loop-i l = l.store ≡ paste l.initial.store l.at (replicate l.n 0) l.i

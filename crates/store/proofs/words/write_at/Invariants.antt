-- `store::words::write_at` meets its contract. After i turns the store is the paste of i words. Assumes nothing.
use mathlib.Core.Path.{◌≡◌}
use lib.Seq.{paste}
use Rattle.store.proofs.words.write_at.Given as goal

abbrev pub invariant-loop-i : goal.invariant-loop-i
invariant-loop-i l = l.store ≡ paste l.initial.store l.at l.words l.i

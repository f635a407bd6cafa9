-- `formed::numbers_differ` meets its contract. The invariant: `ok` is the test of the slots from index i on, and if the mark of a number is not set, none of them has it. Assumes nothing.
use mathlib.Core.Path.{◌≡◌}
use lib.ListN.{length, drop}
use Rattle.formed.specs.Tests.{differ}
use Rattle.formed.proofs.Marks.{Marked}
use Rattle.formed.proofs.numbers_differ.Given as goal

abbrev pub invariant-loop-i : goal.invariant-loop-i
invariant-loop-i l = (length l.marks ≡ 509) × ((l.ok ≡ differ (drop l.i l.slots)) × Marked l.marks (drop l.i l.slots))

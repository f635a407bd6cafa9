-- `formed::laid_ok` meets its contract. The invariant: the test of all slots is the test of those from index i on, from the word `at` on. Assumes nothing.
use Prim.Native.Nat.{◌*◌, ◌≤◌}
use mathlib.Core.Path.{◌≡◌}
use lib.ListN.{drop}
use Rattle.formed.specs.Tests.{laid_ok}
use Rattle.formed.proofs.laid_ok.Given as goal

abbrev pub invariant-loop-i : goal.invariant-loop-i
invariant-loop-i l = (l.at ≤ 524288 * l.i) × (laid_ok l.kind l.size 0 l.s-items ≡ laid_ok l.kind l.size l.at (drop l.i l.s-items))

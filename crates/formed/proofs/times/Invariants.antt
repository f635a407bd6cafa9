-- `formed::times` meets its contract. The invariant: what has been counted, with what there is from the index on, is all. Assumes nothing.
use Prim.Native.Nat.{◌+◌, ◌≤◌}
use mathlib.Core.Path.{◌≡◌}
use lib.ListN.{drop}
use Rattle.formed.specs.Tests.{hits}
use Rattle.formed.proofs.times.Given as goal

abbrev pub invariant-loop-x : goal.invariant-loop-x
invariant-loop-x l = (l.n ≤ l.x-index) × (l.n + hits l.number (drop l.x-index l.numbers) ≡ hits l.number l.numbers)

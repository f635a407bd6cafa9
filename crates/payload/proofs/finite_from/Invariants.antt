-- The invariant: the verdict on all n words is the verdict on those from i on. Assumes nothing.
use Prim.Native.Nat.{◌+◌, ◌-◌, ◌≤◌}
use mathlib.Core.Path.{◌≡◌}
use Rattle.payload.specs.Words.{finite_from}
use Rattle.payload.proofs.finite_from.Given as goal

abbrev pub invariant-loop-i : goal.invariant-loop-i
invariant-loop-i l = (l.i ≤ l.start + l.n) × (finite_from l.p l.start l.n ≡ finite_from l.p l.i (l.start + l.n - l.i))

-- The invariant: the words that are left decide. Assumes nothing.
use Rattle.std.proofs.Common.{◌≡◌, drop}
use Rattle.flat.specs.Words.{first_out, flat_verdict}
use Rattle.flat.proofs.tri.verdict_of.Given as goal

abbrev pub invariant-loop-i : goal.invariant-loop-i
invariant-loop-i l = flat_verdict l.p ≡ first_out l.p (drop l.i-index l.i-items)

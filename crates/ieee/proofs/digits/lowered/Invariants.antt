-- `ieee::digits::lowered` meets its contract, whatever the guess was: at 0 the test fails. Assumes nothing.
use Rattle.std.proofs.Common.{◌≤◌}
use Rattle.ieee.proofs.digits.lowered.Given as goal

abbrev pub invariant-loop-r : goal.invariant-loop-r
invariant-loop-r l = l.r ≤ 16777216

abbrev pub decreases-loop-r : goal.decreases-loop-r
decreases-loop-r l = l.r

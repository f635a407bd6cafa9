-- `ieee::digits::near_root` meets its contract: a root whose square and itself are below 2 ^ 48 is below 2 ^ 24, so the loop stays within the bound. Assumes nothing.
use Rattle.std.proofs.Common.{◌+◌, ◌-◌, ◌*◌, ◌<◌, ◌≤◌}
use Rattle.ieee.proofs.digits.near_root.Given as goal

abbrev pub invariant-loop-r : goal.invariant-loop-r
invariant-loop-r l = (l.r ≤ 16777216) × (l.r * l.r < l.a + l.r)

abbrev pub decreases-loop-r : goal.decreases-loop-r
decreases-loop-r l = 16777216 - l.r

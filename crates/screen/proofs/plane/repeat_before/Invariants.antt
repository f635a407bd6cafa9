-- The invariant: up to i the plane repeats what was before the start. Assumes nothing.
use Rattle.std.proofs.Common.{◌≡◌}
use Rattle.laws.specs.Cells.{map_range}
use Rattle.screen.specs.Plane.{echo}
use Rattle.screen.proofs.plane.repeat_before.Given as goal

abbrev pub invariant-loop-i : goal.invariant-loop-i
invariant-loop-i l = l.plane ≡ map_range (echo l.initial.plane l.size l.start) l.start l.i l.initial.plane

-- The invariant: the first y rows are painted. Assumes nothing.
use Rattle.std.proofs.Common.{◌≡◌, ◌*◌}
use Rattle.laws.specs.Cells.{map_range}
use Rattle.screen.specs.Plane.{paint}
use Rattle.screen.proofs.plane.fill.Given as goal

abbrev pub invariant-loop-y : goal.invariant-loop-y
invariant-loop-y l = l.plane ≡ map_range (paint l.rgba) 0 (l.y * 1280) l.initial.plane

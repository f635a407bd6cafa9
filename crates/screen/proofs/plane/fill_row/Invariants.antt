-- The invariant: the first x pixels of the row are painted. Assumes nothing.
use Rattle.std.proofs.Common.{◌≡◌, ◌+◌, ◌*◌}
use Rattle.laws.specs.Cells.{map_range}
use Rattle.screen.specs.Plane.{paint}
use Rattle.screen.proofs.plane.fill_row.Given as goal

abbrev pub invariant-loop-x : goal.invariant-loop-x
invariant-loop-x l = l.plane ≡ map_range (paint l.rgba) (l.y * 1280) (l.y * 1280 + l.x * 4) l.initial.plane

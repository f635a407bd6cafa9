-- The invariant: the row is drawn up to x, or to its end. Left of the box and right of it nothing shows. Assumes nothing.
use Rattle.std.proofs.Common.{◌+◌, ◌*◌, ◌≤◌, min}
use Rattle.screen.specs.Plane.{width}
use Rattle.raster.specs.Steps.{FaceDrawn}
use Rattle.raster.proofs.rows.draw_row.Given as goal

abbrev pub invariant-loop-x : goal.invariant-loop-x
invariant-loop-x l = (l.f.bounds.left ≤ l.x) × FaceDrawn l.texels l.ink l.f (l.y * width) (l.y * width + min l.x width) l.initial.depth l.initial.plane l.depth l.plane

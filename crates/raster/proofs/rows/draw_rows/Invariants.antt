-- The invariant: the rows above y are drawn, or all of them. Above the box and below it nothing shows. Assumes nothing.
use Rattle.std.proofs.Common.{◌*◌, ◌≤◌, min}
use Rattle.screen.specs.Plane.{width, height}
use Rattle.raster.specs.Steps.{FaceDrawn}
use Rattle.raster.proofs.rows.draw_rows.Given as goal

abbrev pub invariant-loop-y : goal.invariant-loop-y
invariant-loop-y l = (l.f.bounds.top ≤ l.y) × FaceDrawn l.texels l.ink l.f 0 (min l.y height * width) l.initial.depth l.initial.plane l.depth l.plane

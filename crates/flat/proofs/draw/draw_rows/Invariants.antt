-- The invariant: the rows above y are drawn. Above the bounds and below them nothing is covered. Assumes nothing.
use Prim.Native.Nat.{◌*◌, ◌≤◌}
use Rattle.screen.specs.Plane.{width, height}
use Rattle.flat.specs.Drawing.{TriDrawn}
use Rattle.flat.proofs.draw.draw_rows.Given as goal

abbrev pub invariant-loop-y : goal.invariant-loop-y
invariant-loop-y l = (l.y ≤ height) × TriDrawn l.s.tri 0 (l.y * width) l.initial.depth l.initial.plane l.depth l.plane

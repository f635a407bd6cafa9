-- The invariant: the row is drawn up to x. Left of the bounds and right of them nothing is covered. Assumes nothing.
use Prim.Native.Nat.{◌+◌, ◌*◌, ◌≤◌}
use Rattle.screen.specs.Plane.{width}
use Rattle.flat.specs.Drawing.{TriDrawn}
use Rattle.flat.proofs.draw.draw_row.Given as goal

abbrev pub invariant-loop-x : goal.invariant-loop-x
invariant-loop-x l = (l.x ≤ width) × TriDrawn l.s.tri (l.y * width) (l.y * width + l.x) l.initial.depth l.initial.plane l.depth l.plane

-- `clip::polygon::first_out` meets its contract. The loop's invariant: the planes from here on have the answer. Assumes nothing.
use Rattle.std.proofs.Common.{◌≡◌, ◌-◌, ◌≤◌, [], ◌∷◌}
use Rattle.clip.specs.Polygons.{next_cut}
use Rattle.clip.specs.Vertices.{full}
use Rattle.clip.proofs.polygon.first_out.Given as goal

abbrev pub invariant-loop-p : goal.invariant-loop-p
invariant-loop-p l = (l.p ≤ l.stop) × (next_cut full (l.stop - l.p) l.p (l.vertex ∷ []) ≡ next_cut full (l.stop - l.plane) l.plane (l.vertex ∷ []))

abbrev pub decreases-loop-p : goal.decreases-loop-p
decreases-loop-p l = l.stop - l.p

-- `clip::polygon::clip_all` meets its contract. The loop's invariant: what the planes from here on make of the polygon is what all six make of the triangle (`proofs/Planes.antt`). Assumes nothing.
use Rattle.std.proofs.Common.{◌-◌, ◌≤◌}
use Rattle.clip.specs.Polygons.{clip_all}
use Rattle.clip.specs.Vertices.{full, of}
use Rattle.clip.proofs.Planes.{Carried}
use Rattle.clip.proofs.polygon.clip_all.Given as goal

abbrev pub invariant-loop-plane : goal.invariant-loop-plane
invariant-loop-plane l = (l.plane ≤ 6) × Carried (clip_all full (of l.initial.polygon)) l.polygon l.plane

abbrev pub decreases-loop-plane : goal.decreases-loop-plane
decreases-loop-plane l = 6 - l.plane

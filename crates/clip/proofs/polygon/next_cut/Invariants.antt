-- `clip::polygon::next_cut` meets its contract. The loop's invariant: the vertices from i on, looked at up to `stop`, have the answer. Assumes nothing.
use Rattle.std.proofs.Common.{◌≡◌, ◌-◌, ◌≤◌, drop}
use Rattle.clip.specs.Polygons.{next_cut}
use Rattle.clip.specs.Vertices.{full, of}
use Rattle.clip.proofs.polygon.next_cut.Given as goal

abbrev pub invariant-loop-vertex : goal.invariant-loop-vertex
invariant-loop-vertex l = let vs = of l.fn.polygon in
    ((l.plane ≤ l.stop) × (l.stop ≤ 6)) × (next_cut full (l.stop - l.plane) l.plane (drop l.vertex-index vs) ≡ next_cut full (6 - l.plane) l.plane vs)

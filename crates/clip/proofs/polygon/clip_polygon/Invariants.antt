-- `clip::polygon::clip_polygon` meets its contract. The loop's invariant: what has been put, followed by what the sides from here on add, is the whole answer (`proofs/Turn.antt`). Assumes nothing.
use Rattle.clip.specs.Vertices.{of}
use Rattle.clip.proofs.Turn.{Walked}
use Rattle.clip.proofs.polygon.clip_polygon.Given as goal

abbrev pub invariant-loop-vertex : goal.invariant-loop-vertex
invariant-loop-vertex l = Walked l.plane (of l.fn.polygon) l.previous l.previous_distance l.output l.n l.vertex-index

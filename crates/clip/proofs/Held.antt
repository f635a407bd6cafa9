-- The vertices of a polygon by value, the first `count` of its array. Assumes nothing.
use Rattle.std.proofs.Common.{◌≡◌, ℕ, ◌+◌, ◌<◌, ◌≤◌, List, ◌∷◌, length, get_or, take, drop, add-one, arith, length-take-le, drop-cons, get_or-take}
use Rattle.clip.specs.declared.vertex.ClipVertex.{ClipVertex}
use Rattle.clip.specs.Vertices.{no_vertex}

-- those from j on: the one at j, and those after it
pub held-from : (all : List ClipVertex) (count : ℕ) → count ≤ length all → (j : ℕ) → j < count
    → drop j (take count all) ≡ get_or all j no_vertex ∷ drop (j + 1) (take count all)
held-from all count fits j h =
    let k : j < length (take count all) = omega (arith, length-take-le count all fits) in
    rw (add-one, drop-cons (take count all) j no_vertex k, get_or-take count all j no_vertex h)

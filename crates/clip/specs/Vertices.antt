-- The vertex that is clipped and the polygon by value. The original's `ClipVertex`, `clip_distance` and what `clip_polygon` pushes at a crossing.
-- Definitions only.
use Rattle.std.specs.Prelude.{◌≡◌, ℕ, ◌≤◌, cond, List, [], length, map, take, ◌==◌, Float}
use Rattle.std.specs.List.{range_with_len}
use Rattle.vector.specs.Three.{◌⊕◌, ◌⊖◌, ◌·◌, at, normal_of}
use Rattle.clip.specs.declared.vertex.ClipVertex.{ClipVertex}
use Rattle.clip.specs.declared.polygon.Polygon.{Polygon}
use Rattle.clip.specs.Polygons.{Kind}

-- rule 5.6, `clip_distance`, of a position
unfoldable pub distance_of : ℕ → List Float → Float
distance_of plane position =
    let x = at position 0 in
    let y = at position 1 in
    let z = at position 2 in
    let w = at position 3 in
    cond (plane == 0) (x ⊕ w)
    (cond (plane == 1) (w ⊖ x)
    (cond (plane == 2) (y ⊕ w)
    (cond (plane == 3) (w ⊖ y)
    (cond (plane == 4) z (w ⊖ z)))))

-- `previous[i] + t * (current[i] - previous[i])`
abbrev pub mix_of : Float → Float → Float → Float
mix_of t p c = p ⊕ t · (c ⊖ p)

-- `std::array::from_fn` over n of them
abbrev pub mixed_of : ℕ → Float → List Float → List Float → List Float
mixed_of n t p c = map (λ i. mix_of t (at p i) (at c i)) (range_with_len 0 n)

-- `output.push(ClipVertex { .. })`: each field by itself, the normal normalised again
unfoldable pub mix_vertex : Float → ClipVertex → ClipVertex → ClipVertex
mix_vertex t p c = record {
  position = mixed_of 4 t p.position c.position;
  view_position = mixed_of 3 t p.view_position c.view_position;
  normal = normal_of (mixed_of 3 t p.normal c.normal);
  color = mixed_of 4 t p.color c.color;
  uv = mixed_of 2 t p.uv c.uv;
}

-- the vertex with all its fields, as a kind
abbrev pub full : Kind ClipVertex
full = record { distance = λ plane v. distance_of plane v.position; between = mix_vertex }

-- no vertex: what is past the end of an array
abbrev pub no_vertex : ClipVertex
no_vertex = record { position = []; view_position = []; normal = []; color = []; uv = [] }

-- rule 5.6: the most vertices. A plane makes at most 3 n / 2 vertices of n, since rounding can let a polygon cross it more than twice. So six planes make at most 28 of three
abbrev pub room : ℕ
room = 28

-- the most vertices of a polygon that a plane may be asked to cut. Five planes leave no more, and one plane makes no more of them than there is room for
abbrev pub cuttable : ℕ
cuttable = 19

-- the polygon is its first `count` vertices
abbrev pub of : Polygon → List ClipVertex
of p = take p.count p.vertices

-- a polygon by value is these vertices; past its count there may be anything
pub record Holds (p : Polygon) (vs : List ClipVertex) : Type 0 where
  pub few : p.count ≤ room
  pub long : p.count ≡ length vs
  pub are : of p ≡ vs

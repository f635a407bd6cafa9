-- What lighting makes of the three corners (rule 5.5); the original, from `face_normal` on. Definitions only.
use Rattle.std.specs.Prelude.{ℕ, Bool, cond, ◌&&◌, List, [], ◌∷◌, eqb, set, Float}
use Rattle.vector.specs.Three.{◌⊕◌, ◌⊖◌, ◌·◌, at, normal_of}
use Rattle.light.specs.Light.{row_of, shade_of}
use Rattle.light.specs.declared.Light.{Light}
use Rattle.clip.specs.declared.vertex.ClipVertex.{ClipVertex}
use Rattle.decide.specs.Corners.{corner}

abbrev pub with_color : ClipVertex → List Float → ClipVertex
with_color v c = record { position = v.position; view_position = v.view_position; normal = v.normal; color = c; uv = v.uv }

-- `shade_vertex(vertex.color, vertex.view_position, normal, &self.lights)`
abbrev pub shaded_by : List Light → ClipVertex → List Float → List Float
shaded_by lights v normal = shade_of v.color v.view_position normal lights

-- ---- 16: with shading 0 all three get the colour of vertex 0, lit by the normalised sum of the vertex normals; else each vertex is lit by its own normal
abbrev pub sum_of : List ClipVertex → ℕ → Float
sum_of tri axis = at (corner tri 0).normal axis ⊕ at (corner tri 1).normal axis ⊕ at (corner tri 2).normal axis

unfoldable pub mean_normal : List ClipVertex → List Float
mean_normal tri = normal_of (sum_of tri 0 ∷ sum_of tri 1 ∷ sum_of tri 2 ∷ [])

-- the same colour for all three, and each its own
abbrev pub one_color : List ClipVertex → List Float → List ClipVertex
one_color tri c = with_color (corner tri 0) c ∷ with_color (corner tri 1) c ∷ with_color (corner tri 2) c ∷ []

abbrev pub own_lit : List Light → ClipVertex → ClipVertex
own_lit lights v = with_color v (shaded_by lights v v.normal)

abbrev pub each_lit : (ClipVertex → ClipVertex) → List ClipVertex → List ClipVertex
each_lit f tri = f (corner tri 0) ∷ f (corner tri 1) ∷ f (corner tri 2) ∷ []

-- 14 is never lit. `on` is `lighting_enabled`, and shading `shading_mode`
unfoldable pub transformed_lit : Bool → ℕ → List Light → Bool → List ClipVertex → List ClipVertex
transformed_lit on shading lights normal tri =
    cond (normal && on)
    (cond (eqb shading 0) (one_color tri (shaded_by lights (corner tri 0) (mean_normal tri))) (each_lit (own_lit lights) tri))
    tri

-- ---- 18 and 19: mode 0 is not lit, mode 1 lights vertex 0 by the face's normal, mode 2 each vertex: 18 by the face's normal, 19 by its own
-- `edge_a`, from vertex 0 to vertex 1, and `edge_b`, from vertex 0 to vertex 2
abbrev pub edge_of : ClipVertex → ClipVertex → List Float
edge_of a b =
    at b.view_position 0 ⊖ at a.view_position 0
    ∷ at b.view_position 1 ⊖ at a.view_position 1
    ∷ at b.view_position 2 ⊖ at a.view_position 2 ∷ []

-- `face_normal`, of the two
unfoldable pub cross_of : List Float → List Float → List Float
cross_of a b = normal_of (at a 1 · at b 2 ⊖ at a 2 · at b 1 ∷ at a 2 · at b 0 ⊖ at a 0 · at b 2 ∷ at a 0 · at b 1 ⊖ at a 1 · at b 0 ∷ [])

unfoldable pub face_normal : List ClipVertex → List Float
face_normal tri = cross_of (edge_of (corner tri 0) (corner tri 1)) (edge_of (corner tri 0) (corner tri 2))

abbrev pub face_lit : List Light → List Float → ClipVertex → ClipVertex
face_lit lights normal v = with_color v (shaded_by lights v normal)

-- each vertex is lit by the normal given for it
abbrev pub lit_each : List Light → List (List Float) → List ClipVertex → List ClipVertex
lit_each lights normals tri =
    face_lit lights (row_of normals 0) (corner tri 0)
    ∷ face_lit lights (row_of normals 1) (corner tri 1)
    ∷ face_lit lights (row_of normals 2) (corner tri 2) ∷ []

abbrev pub first_lit : List Light → List ClipVertex → List Float → List ClipVertex
first_lit lights tri normal = set tri 0 (face_lit lights normal (corner tri 0))

unfoldable pub textured_lit : Bool → ℕ → List Light → Bool → List ClipVertex → List ClipVertex
textured_lit on mode lights normal tri =
    cond (on && eqb mode 1) (first_lit lights tri (face_normal tri))
    (cond (on && eqb mode 2)
    (cond normal (each_lit (own_lit lights) tri) (each_lit (face_lit lights (face_normal tri)) tri))
    tri)

-- A pixel of a float triangle, up to its depth: what both rasterisers share of the body of their loops. Each operation rounds once, in the source's order. Definitions only.
use Rattle.std.specs.Prelude.{Bool, cond, not, ◌&&◌, ℕ, leb, ltb, pos, Float}
use Rattle.std.specs.Float.{binary32}
use Rattle.std.specs.Float.Ieee.{of_int, lt, le}
use Rattle.ieee.specs.Units.{zero32, one32}
use Rattle.vector.specs.Three.{◌⊕◌, ◌·◌, ◌⊘◌}
use Rattle.face.specs.declared.Corners.{Corners}
use Rattle.screen.specs.declared.bounds.Bounds.{Bounds}
use Rattle.face.specs.declared.Face.{Face}
use Rattle.face.specs.Face.{half, edge_of}

-- `for y in min_y..=max_y`, `for x in min_x..=max_x`: is (x, y) in the box?
unfoldable pub within : Bounds → ℕ → ℕ → Bool
within r x y = (leb r.left x && ltb x r.right) && (leb r.top y && ltb y r.bottom)

-- `x as f32 + 0.5`
abbrev pub centre_of : ℕ → Float
centre_of n = of_int binary32 (pos n) ⊕ half

-- `weights`: the edge that faces each corner, at the middle of (x, y)
unfoldable pub weight0 : Face → ℕ → ℕ → Float
weight0 f x y = edge_of f.b f.c (centre_of x) (centre_of y)

unfoldable pub weight1 : Face → ℕ → ℕ → Float
weight1 f x y = edge_of f.c f.a (centre_of x) (centre_of y)

unfoldable pub weight2 : Face → ℕ → ℕ → Float
weight2 f x y = edge_of f.a f.b (centre_of x) (centre_of y)

-- rule 5.9, `inside`: all three weights on the area's side; a NaN is on neither
unfoldable pub inside_of : Float → Float → Float → Float → Bool
inside_of area w0 w1 w2 =
    cond (lt zero32 area) (le zero32 w0 && (le zero32 w1 && le zero32 w2)) (le w0 zero32 && (le w1 zero32 && le w2 zero32))

unfoldable pub covers : Face → ℕ → ℕ → Bool
covers f x y = inside_of f.area (weight0 f x y) (weight1 f x y) (weight2 f x y)

-- `bary`
unfoldable pub bary_of : Face → ℕ → ℕ → Corners
bary_of f x y = record { c0 = weight0 f x y ⊘ f.area; c1 = weight1 f x y ⊘ f.area; c2 = weight2 f x y ⊘ f.area }

-- `bary[0] * v[0] + bary[1] * v[1] + bary[2] * v[2]`
unfoldable pub mix_of : Corners → Corners → Float
mix_of b v = b.c0 · v.c0 ⊕ b.c1 · v.c1 ⊕ b.c2 · v.c2

-- `z`
unfoldable pub depth_at : Face → ℕ → ℕ → Float
depth_at f x y = mix_of (bary_of f x y) f.depth

-- rule 5.10. Not `z < 0.0 || z > 1.0 || z >= self.depth_f32[index]`: a NaN passes all three
unfoldable pub passes_of : Float → Float → Bool
passes_of z old = not (lt z zero32) && (not (lt one32 z) && not (le old z))

-- What a flat triangle does to each depth and to each byte of the plane: rules 4.3, 4.4 and 4.5. There is no bounding box. Assumes nothing.
use Rattle.std.specs.Prelude.{Bool, ◌&&◌, List, ℕ, ◌/◌, ◌%◌, ℤ, pos}
use Rattle.std.specs.Int.Signed.{lt_z}
use Rattle.std.specs.Int.{w32}
use Rattle.std.proofs.Common.{SFits}
use Rattle.laws.specs.Cells.{map_at}
use Rattle.laws.specs.Within.{Within}
use Rattle.screen.specs.Plane.{width, paint}
use Rattle.screen.specs.Draw.{depth_step, byte_step}
use Rattle.flat.specs.declared.tri.Tri.{Tri}
use Rattle.flat.specs.declared.edge.Weights.{Weights}
use Rattle.flat.specs.Edge.{reach, edge_of, inside_of, weighted_of}

-- a triangle that is not refused: its coordinates are in reach, and its depths are of 32 bits
pub record Placed (t : Tri) : Type 0 where
  pub in_x0 : Within reach t.p0.x
  pub in_y0 : Within reach t.p0.y
  pub in_x1 : Within reach t.p1.x
  pub in_y1 : Within reach t.p1.y
  pub in_x2 : Within reach t.p2.x
  pub in_y2 : Within reach t.p2.y
  pub in_z0 : SFits w32 t.p0.z
  pub in_z1 : SFits w32 t.p1.z
  pub in_z2 : SFits w32 t.p2.z

-- `area`
unfoldable pub area_of : Tri → ℤ
area_of t = edge_of t.p0.x t.p0.y t.p1.x t.p1.y t.p2.x t.p2.y

-- `w0`, `w1`, `w2`: the edge that faces each corner, at (x, y)
unfoldable pub weight0 : Tri → ℕ → ℕ → ℤ
weight0 t x y = edge_of t.p1.x t.p1.y t.p2.x t.p2.y (pos x) (pos y)

unfoldable pub weight1 : Tri → ℕ → ℕ → ℤ
weight1 t x y = edge_of t.p2.x t.p2.y t.p0.x t.p0.y (pos x) (pos y)

unfoldable pub weight2 : Tri → ℕ → ℕ → ℤ
weight2 t x y = edge_of t.p0.x t.p0.y t.p1.x t.p1.y (pos x) (pos y)

-- the three
abbrev pub weights_of : Tri → ℕ → ℕ → Weights
weights_of t x y = record { w0 = weight0 t x y; w1 = weight1 t x y; w2 = weight2 t x y }

-- does the triangle cover (x, y), and with which depth?
unfoldable pub covers : Tri → ℕ → ℕ → Bool
covers t x y = inside_of (area_of t) (weight0 t x y) (weight1 t x y) (weight2 t x y)

unfoldable pub depth_at : Tri → ℕ → ℕ → ℤ
depth_at t x y = weighted_of (area_of t) (weight0 t x y) (weight1 t x y) (weight2 t x y) t.p0.z t.p1.z t.p2.z

-- rule 4.5: does it show at the pixel k, whose depth is old? And the depth that it then leaves
unfoldable pub shows : Tri → ℕ → ℤ → Bool
shows t k old = covers t (k % width) (k / width) && lt_z (depth_at t (k % width) (k / width)) old

unfoldable pub depth_of : Tri → ℕ → ℤ
depth_of t k = depth_at t (k % width) (k / width)

-- the depths D and the plane P after the triangle
unfoldable pub tri_depths : Tri → List ℤ → List ℤ
tri_depths t D = map_at (depth_step (shows t) (depth_of t)) D

unfoldable pub tri_plane : Tri → List ℤ → List ℕ → List ℕ
tri_plane t D P = map_at (byte_step (pos 0) (shows t) (paint t.color) D) P

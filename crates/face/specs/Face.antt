-- The set-up of a float triangle, which both rasterisers share: what comes before their loops in the original. Definitions only.
use Rattle.std.specs.Prelude.{Bool, cond, ◌||◌, Option, Some, None, List, ℕ, ◌≤◌, pos, get_or, Float}
use Rattle.std.proofs.Math.IntN.{suc_ℤ}
use Rattle.std.specs.Float.{binary32}
use Rattle.std.specs.Float.Ieee.{of_bits, le}
use Rattle.ieee.specs.Units.{one32}
use Rattle.ieee.specs.Range.{tiny_of}
use Rattle.ieee.specs.Casts.{floor_of, ceil_of}
use Rattle.ieee.specs.Box.{nat_of, min_z, max_z}
use Rattle.vector.specs.Three.{◌⊕◌, ◌⊖◌, ◌·◌, ◌⊘◌, at, epsilon}
use Rattle.clip.specs.declared.vertex.ClipVertex.{ClipVertex}
use Rattle.clip.specs.Vertices.{no_vertex}
use Rattle.screen.specs.Plane.{width, height}
use Rattle.face.specs.declared.Point.{Point}
use Rattle.screen.specs.declared.bounds.Bounds.{Bounds}
use Rattle.face.specs.declared.Face.{Face}

-- `tri[i]`
abbrev pub corner : List ClipVertex → ℕ → ClipVertex
corner tri i = get_or tri i no_vertex

-- `w <= f32::EPSILON`: a NaN is not behind
abbrev pub behind_of : List Float → Bool
behind_of p = le (at p 3) epsilon

-- `1.0 / w`
abbrev pub inverse_of : List Float → Float
inverse_of p = one32 ⊘ at p 3

abbrev pub half : Float
half = of_bits binary32 0x3f00_0000

-- `* VPU_WIDTH as f32 * 0.5` of the textured rasteriser (split), `* (VPU_WIDTH as f32 * 0.5)` of the other
abbrev pub scaled : Bool → Float → Float → Float → Float
scaled split e side middle = cond split (e · side · half) (e · middle)

-- `screen[i]`, with 320, 160, 240 and 120
unfoldable pub point_of : Bool → List Float → Float → Point
point_of split p v =
    record {
      x = scaled split (at p 0 · v ⊕ one32) (of_bits binary32 0x43a0_0000) (of_bits binary32 0x4320_0000);
      y = scaled split (one32 ⊖ at p 1 · v) (of_bits binary32 0x4370_0000) (of_bits binary32 0x42f0_0000);
    }

-- `edge`, from a to b, at (x, y)
unfoldable pub edge_of : Point → Point → Float → Float → Float
edge_of a b x y = (x ⊖ a.x) · (b.y ⊖ a.y) ⊖ (y ⊖ a.y) · (b.x ⊖ a.x)

-- `min_x`, `min_y`: the least of three floors, and 0 if that is below 0
unfoldable pub min_of : Float → Float → Float → ℕ
min_of a b c = nat_of (min_z (min_z (floor_of a) (floor_of b)) (floor_of c))

-- one more than `max_x`, `max_y`, the greatest of three ceilings cut at the last column or row; 0 if it is below 0
unfoldable pub past_of : Float → Float → Float → ℕ → ℕ
past_of a b c last = nat_of (suc_ℤ (min_z (max_z (max_z (ceil_of a) (ceil_of b)) (ceil_of c)) (pos last)))

-- rule 5.9: the box. It is part of the rule, since rounding can let the edges cover a pixel outside it
unfoldable pub bounds_of : Point → Point → Point → Bounds
bounds_of a b c =
    record {
      left = min_of a.x b.x c.x;
      right = past_of a.x b.x c.x 319;
      top = min_of a.y b.y c.y;
      bottom = past_of a.y b.y c.y 239;
    }

-- `screen`, `inv_w`, `depth`, `area` and the box, of three positions
unfoldable pub face_of : Bool → List Float → List Float → List Float → Face
face_of split p q r =
    let a = point_of split p (inverse_of p) in
    let b = point_of split q (inverse_of q) in
    let c = point_of split r (inverse_of r) in
    record {
      a = a;
      b = b;
      c = c;
      inv_w = record { c0 = inverse_of p; c1 = inverse_of q; c2 = inverse_of r };
      depth = record { c0 = at p 2 · inverse_of p; c1 = at q 2 · inverse_of q; c2 = at r 2 · inverse_of r };
      area = edge_of a b c.x c.y;
      bounds = bounds_of a b c;
    }

-- rule 5.8: nothing if a corner is behind, or if the area is at most 2 ^ -23 in size; an empty box, the source's third `return`, holds no pixel
unfoldable pub setup_of : Bool → List ClipVertex → Option Face
setup_of split tri =
    let p = (corner tri 0).position in
    let q = (corner tri 1).position in
    let r = (corner tri 2).position in
    let face = face_of split p q r in
    cond (behind_of p || (behind_of q || behind_of r)) None (cond (tiny_of face.area) None (Some face))

-- the box, if there is one, ends on the screen
abbrev pub OnScreen : Option Face → Type 0
OnScreen (Some f) = (f.bounds.right ≤ width) × (f.bounds.bottom ≤ height)
OnScreen None = Unit

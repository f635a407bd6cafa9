-- An edge along a row is the edge at the pixel, bit for bit, and the first edge that fails settles a pixel. Assumes nothing.
use mathlib.Core.Path.{◌≡◌, sym, ◌∙◌}
use mathlib.Core.Bool.{Bool}
use Prim.Native.Nat.{ℕ}
use lib.Ieee.{Float}
use Rattle.vector.specs.Three.{◌⊘◌}
use Rattle.face.specs.declared.Corners.{Corners}
use Rattle.face.specs.declared.Face.{Face}
use Rattle.face.specs.declared.Edges.{Edges}
use Rattle.face.specs.Face.{edge_of}
use Rattle.face.specs.Pixel.{centre_of, weight0, weight1, weight2, inside_of, covers, bary_of, mix_of, depth_at}
use Rattle.face.specs.Row.{on_line, edges_of}

module _ (f : Face) (x y : ℕ) where
  -- the weights, as `at_column` answers them
  module _ {e : Edges} {px w : Float} (he : e ≡ edges_of f y) (hp : px ≡ centre_of x) where
    pub along0 : w ≡ on_line e.w0 px → w ≡ weight0 f x y
    unfolding edges_of weight0 edge_of
    along0 h = h ∙ rw (he, hp)

    pub along1 : w ≡ on_line e.w1 px → w ≡ weight1 f x y
    unfolding edges_of weight1 edge_of
    along1 h = h ∙ rw (he, hp)

    pub along2 : w ≡ on_line e.w2 px → w ≡ weight2 f x y
    unfolding edges_of weight2 edge_of
    along2 h = h ∙ rw (he, hp)

  -- what was asked of the weights
  pub covered : {w0 w1 w2 : Float} {b t : Bool} → w0 ≡ weight0 f x y → w1 ≡ weight1 f x y → w2 ≡ weight2 f x y → b ≡ inside_of f.area w0 w1 w2 → b ≡ t → covers f x y ≡ t
  unfolding covers
  covered h0 h1 h2 h k = rw (← h0, ← h1, ← h2) (sym h ∙ k)

  -- `bary` and `z`
  pub bary_is : {w0 w1 w2 : Float} → w0 ≡ weight0 f x y → w1 ≡ weight1 f x y → w2 ≡ weight2 f x y
      → record { c0 = w0 ⊘ f.area; c1 = w1 ⊘ f.area; c2 = w2 ⊘ f.area } ≡ bary_of f x y
  unfolding bary_of
  bary_is h0 h1 h2 = rw (h0, h1, h2)

  pub depth_is : {b : Corners} {z : Float} → b ≡ bary_of f x y → z ≡ mix_of b f.depth → depth_at f x y ≡ z
  unfolding depth_at
  depth_is hb hz = sym (hz ∙ rw hb)

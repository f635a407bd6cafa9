-- `Rattle.screen.proofs.Draw`, at a float triangle: a run outside the box, and one pixel. Assumes nothing.
use Rattle.std.proofs.Common.{◌≡◌, ℕ, ◌+◌, ◌*◌, ◌/◌, ◌%◌, ◌<◌, ◌≤◌, Bool, true, false, ◌&&◌, ltb, leb, List, length, get_or, set, ◌∙◌, arith, le-ltb, lt-ltb, le-leb}
use mathlib.Core.Bool.{and-false}
use borrow.Author.Tests.{lt-leb}
use lib.Ieee.{Float, nan}
use Rattle.laws.specs.Cells.{map_range}
use Rattle.laws.proofs.Cells.{range_swap}
use Rattle.screen.specs.Plane.{width}
use Rattle.screen.proofs.Draw.{drawn-none, drawn-one}
use Rattle.screen.specs.declared.bounds.Bounds.{Bounds}
use Rattle.face.specs.declared.Face.{Face}
use Rattle.raster.specs.declared.ink.Ink.{Ink}
use Rattle.std.specs.Prelude.{Option}
use Rattle.screen.specs.declared.plane.Rgba.{Rgba}
use Rattle.face.specs.Pixel.{within, covers, bary_of, depth_at, passes_of}
use Rattle.raster.specs.Ink.{shade_of}
use Rattle.raster.specs.Raster.{shows_at, shows, new_depth, inked, ink_at}
use Rattle.raster.specs.Steps.{FaceDrawn}

-- ---- in and out of a box
module _ (r : Bounds) (x y : ℕ) where
  pub in_bounds : r.left ≤ x → x < r.right → r.top ≤ y → y < r.bottom → within r x y ≡ true
  unfolding within
  in_bounds a b c d = simp (le-leb r.left x a, lt-ltb x r.right b, le-leb r.top y c, lt-ltb y r.bottom d)

  pub before_left : x < r.left → within r x y ≡ false
  unfolding within
  before_left h = simp (lt-leb r.left x h)

  pub from_right : r.right ≤ x → within r x y ≡ false
  unfolding within
  from_right h = simp (le-ltb x r.right h, and-false (leb r.left x))

  pub above_top : y < r.top → within r x y ≡ false
  unfolding within
  above_top h = simp (lt-leb r.top y h) (and-false (leb r.left x && ltb x r.right))

  pub from_bottom : r.bottom ≤ y → within r x y ≡ false
  unfolding within
  from_bottom h = simp (le-ltb y r.bottom h, and-false (leb r.top y)) (and-false (leb r.left x && ltb x r.right))

-- ---- a run outside the box
pub drawn-clear : (W : List ℕ) (i : Ink) (f : Face) (lo hi : ℕ) (D : List Float) (P : List ℕ)
    → ((k : ℕ) → lo ≤ k → k < hi → within f.bounds (k % width) (k / width) ≡ false) → FaceDrawn W i f lo hi D P D P
unfolding shows shows_at
drawn-clear W i f lo hi D P h = drawn-none nan (shows f) (new_depth f) (ink_at W i f) lo hi D P (λ k p q. rw (h k p q))

-- ---- one pixel
pub shows_by : (f : Face) (x y : ℕ) (old : Float) {z : Float} {v : Bool} → within f.bounds x y ≡ true → covers f x y ≡ true → depth_at f x y ≡ z → passes_of z old ≡ v → shows_at f x y old ≡ v
unfolding shows_at
shows_by f x y old a b d h = rw (a, b, d) h

module _ (W : List ℕ) (i : Ink) (f : Face) (x y k : ℕ) (D : List Float) (P : List ℕ) (hx : x < width) (is : k ≡ y * width + x) where
  pub drawn_same : shows_at f x y (get_or D k nan) ≡ false → FaceDrawn W i f k (k + 1) D P D P
  unfolding shows
  drawn_same h =
      drawn-none nan (shows f) (new_depth f) (ink_at W i f) k (k + 1) D P
      (λ n p q.
      let a : n ≡ k = omega arith in
      let e : k % width ≡ x = omega arith in
      let g : k / width ≡ y = omega arith in
      rw (a, e, g) h)

  -- not covered
  pub drawn_out : covers f x y ≡ false → FaceDrawn W i f k (k + 1) D P D P
  unfolding shows_at
  drawn_out h = drawn_same (rw h (and-false (within f.bounds x y)))

  pub drawn-new : (z : Float) (s : Option Rgba) (P' : List ℕ) → shows_at f x y (get_or D k nan) ≡ true → depth_at f x y ≡ z → shade_of W i (bary_of f x y) f.inv_w ≡ s → k < length D
      → P' ≡ map_range (inked s) (k * 4) (k * 4 + 4) P → FaceDrawn W i f k (k + 1) D P (set D k z) P'
  unfolding shows new_depth ink_at
  drawn-new z s P' h d e l w =
      let p : k % width ≡ x = omega arith in
      let q : k / width ≡ y = omega arith in
      drawn-one nan (shows f) (new_depth f) (ink_at W i f) k D P P' z (rw (p, q) h) (rw (p, q) d) l
      (w ∙ range_swap 0 (inked s) (ink_at W i f) (k * 4) (k * 4 + 4) P
      (λ j a b. let n : j / 4 ≡ k = omega arith in rw (n, p, q, e)))

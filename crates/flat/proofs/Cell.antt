-- `Rattle.screen.proofs.Draw`, at a flat triangle: a run that is not covered, and one pixel. Assumes nothing.
use mathlib.Core.Path.{◌≡◌}
use mathlib.Core.Bool.{true, false}
use mathlib.Core.List.{List}
use Prim.Native.Nat.{ℕ, ◌+◌, ◌*◌, ◌/◌, ◌%◌, ◌<◌, ◌≤◌}
use native.Mathlib.Omega.{arith}
use lib.IntN.{ℤ, pos}
use lib.ListN.{length, get_or, set}
use lib.Signed.{lt_z}
use Rattle.laws.specs.Cells.{map_range}
use Rattle.screen.specs.Plane.{width, paint}
use Rattle.screen.proofs.Draw.{drawn-none, drawn-one}
use Rattle.flat.specs.declared.tri.Tri.{Tri}
use Rattle.flat.specs.Edge.{has_area, inside_of}
use Rattle.flat.specs.Tri.{area_of, covers, depth_at, shows, depth_of}
use Rattle.flat.specs.Drawing.{TriDrawn}

-- ---- a run that is not covered
pub drawn-clear : (t : Tri) (lo hi : ℕ) (D : List ℤ) (P : List ℕ) → ((k : ℕ) → lo ≤ k → k < hi → covers t (k % width) (k / width) ≡ false) → TriDrawn t lo hi D P D P
unfolding shows
drawn-clear t lo hi D P h = drawn-none (pos 0) (shows t) (depth_of t) (paint t.color) lo hi D P (λ k p q. rw (h k p q))

-- the columns from lo to hi of row y
pub drawn_row_clear : (t : Tri) (y lo hi from to : ℕ) (D : List ℤ) (P : List ℕ) → hi ≤ width → ((x : ℕ) → lo ≤ x → x < hi → covers t x y ≡ false)
    → from ≡ y * width + lo → to ≡ y * width + hi → TriDrawn t from to D P D P
drawn_row_clear t y lo hi from to D P b h ef et =
    drawn-clear t from to D P (λ k p q. let e : k / width ≡ y = omega arith in rw e (h (k % width) (omega arith) (omega arith)))

-- an area that is neither positive nor negative covers nothing
pub no_area : (t : Tri) (x y : ℕ) → lt_z (pos 0) (area_of t) ≡ false → lt_z (area_of t) (pos 0) ≡ false → covers t x y ≡ false
unfolding covers inside_of has_area
no_area t x y p q = rw (p, q)

-- ---- one pixel: not covered, covered and behind, covered and nearer
module _ (t : Tri) (x y k : ℕ) (D : List ℤ) (P : List ℕ) (hx : x < width) (is : k ≡ y * width + x) where
  pub drawn_miss : covers t x y ≡ false → TriDrawn t k (k + 1) D P D P
  drawn_miss h =
      drawn_row_clear t y x (x + 1) k (k + 1) D P (omega arith)
      (λ i p q. let e : i ≡ x = omega arith in rw e h) is (omega arith)

  module _ (h : covers t x y ≡ true) where
    pub drawn-behind : lt_z (depth_at t x y) (get_or D k (pos 0)) ≡ false → TriDrawn t k (k + 1) D P D P
    unfolding shows
    drawn-behind n =
        drawn-none (pos 0) (shows t) (depth_of t) (paint t.color) k (k + 1) D P
        (λ i p q.
        let a : i ≡ k = omega arith in
        let e : k % width ≡ x = omega arith in
        let f : k / width ≡ y = omega arith in
        rw (a, e, f, h) n)

    pub drawn-new : (d : ℤ) (P' : List ℕ) → d ≡ depth_at t x y → lt_z d (get_or D k (pos 0)) ≡ true → k < length D
        → P' ≡ map_range (paint t.color) (k * 4) (k * 4 + 4) P → TriDrawn t k (k + 1) D P (set D k d) P'
    unfolding shows depth_of
    drawn-new d P' is-d n l w =
        let e : k % width ≡ x = omega arith in
        let f : k / width ≡ y = omega arith in
        drawn-one (pos 0) (shows t) (depth_of t) (paint t.color) k D P P' d (rw (e, f, h, ← is-d) n) (rw (e, f, ← is-d)) l w

-- What a triangle's bounds give: its numbers fit, its edges may be taken at a pixel and along a row, and how large those are. Assumes nothing.
use mathlib.Core.Path.{◌≡◌, ap, ◌∙◌}
use mathlib.Core.Bool.{true}
use Prim.Native.Nat.{ℕ, ◌<◌, ◌^◌}
use native.Mathlib.Omega.{arith}
use lib.IntN.{ℤ, pos, ◌+ℤ◌}
use lib.Signed.{mag}
use mir.Syntax.{w64}
use mir.Val.{SFits, to_z, of_z, hbits}
use mir.ValLaws.{to_z-of_z}
use borrow.Author.Rules.{sfits_of}
use Rattle.laws.specs.Within.{Within}
use Rattle.laws.proofs.Bound as B
use Rattle.laws.proofs.Ring.{ring, Expr, var, add, sub, mul}
use Rattle.screen.specs.Plane.{width, height}
use Rattle.flat.specs.declared.tri.Tri.{Tri}
use Rattle.flat.specs.Edge.{reach, steepest, Weighed, edge_of}
use Rattle.flat.specs.Row.{InRow, line_of, on_line, edges_of}
use Rattle.flat.specs.Tri.{Placed, area_of, weight0, weight1, weight2, covers}

pub fields : {t : Tri} → Placed t
    → SFits w64 t.p0.x × SFits w64 t.p0.y × SFits w64 t.p1.x × SFits w64 t.p1.y × SFits w64 t.p2.x × SFits w64 t.p2.y
fields p =
    (B.fits tt p.in_x0, B.fits tt p.in_y0, B.fits tt p.in_x1, B.fits tt p.in_y1, B.fits tt p.in_x2, B.fits tt p.in_y2)

-- a column or a row of the screen
on_screen : {n : ℕ} (x : ℕ) → x < n → Within n (pos x)
on_screen x h = record { within = omega arith }

-- ---- one edge, from a to b
module _ {ax ay bx by : ℤ} (p : Within reach ax) (q : Within reach ay) (r : Within reach bx) (s : Within reach by) (y : ℕ) (hy : y < height) where
  in_row : InRow (line_of ax ay bx by (pos y))
  unfolding line_of
  in_row = record { in_rise = B.sub s q; in_base = B.add (B.mul (B.sub s q) p) (B.mul (B.sub (on_screen y hy) q) (B.sub r p)) }

  edge_within : (x : ℕ) → x < width → Within steepest (edge_of ax ay bx by (pos x) (pos y))
  unfolding edge_of
  edge_within x hx = B.sub (B.mul (B.sub (on_screen x hx) p) (B.sub s q)) (B.mul (B.sub (on_screen y hy) q) (B.sub r p))

-- an edge along a row is the edge at each of its pixels
on_line_lem : (ax ay bx by px py : ℤ) → on_line (line_of ax ay bx by py) px ≡ edge_of ax ay bx by px py
unfolding line_of on_line edge_of
on_line_lem ax ay bx by px py =
    ring 6 (ax, (ay, (bx, (by, (px, (py, tt))))))
    (sub (mul (var 4) (sub (var 3) (var 1))) (add (mul (sub (var 3) (var 1)) (var 0)) (mul (sub (var 5) (var 1)) (sub (var 2) (var 0)))))
    (sub (mul (sub (var 4) (var 0)) (sub (var 3) (var 1))) (mul (sub (var 5) (var 1)) (sub (var 2) (var 0)))) tt

-- ---- the three edges of a triangle
module _ {t : Tri} (p : Placed t) (y : ℕ) (hy : y < height) where
  pub row0 : InRow (edges_of t y).w0
  unfolding edges_of
  row0 = in_row p.in_x1 p.in_y1 p.in_x2 p.in_y2 y hy

  pub row1 : InRow (edges_of t y).w1
  unfolding edges_of
  row1 = in_row p.in_x2 p.in_y2 p.in_x0 p.in_y0 y hy

  pub row2 : InRow (edges_of t y).w2
  unfolding edges_of
  row2 = in_row p.in_x0 p.in_y0 p.in_x1 p.in_y1 y hy

  module _ (x : ℕ) (hx : x < width) where
    pub within0 : Within steepest (weight0 t x y)
    unfolding weight0
    within0 = edge_within p.in_x1 p.in_y1 p.in_x2 p.in_y2 y hy x hx

    pub within1 : Within steepest (weight1 t x y)
    unfolding weight1
    within1 = edge_within p.in_x2 p.in_y2 p.in_x0 p.in_y0 y hy x hx

    pub within2 : Within steepest (weight2 t x y)
    unfolding weight2
    within2 = edge_within p.in_x0 p.in_y0 p.in_x1 p.in_y1 y hy x hx

pub at0 : (t : Tri) (x y : ℕ) → on_line (edges_of t y).w0 (pos x) ≡ weight0 t x y
unfolding edges_of weight0
at0 t x y = on_line_lem t.p1.x t.p1.y t.p2.x t.p2.y (pos x) (pos y)

pub at1 : (t : Tri) (x y : ℕ) → on_line (edges_of t y).w1 (pos x) ≡ weight1 t x y
unfolding edges_of weight1
at1 t x y = on_line_lem t.p2.x t.p2.y t.p0.x t.p0.y (pos x) (pos y)

pub at2 : (t : Tri) (x y : ℕ) → on_line (edges_of t y).w2 (pos x) ≡ weight2 t x y
unfolding edges_of weight2
at2 t x y = on_line_lem t.p0.x t.p0.y t.p1.x t.p1.y (pos x) (pos y)

-- they sum to the area, everywhere
pub weights_sum : (t : Tri) (x y : ℕ) → area_of t ≡ weight0 t x y +ℤ weight1 t x y +ℤ weight2 t x y
unfolding area_of weight0 weight1 weight2 edge_of
weights_sum t x y =
    ring 8 (t.p0.x, (t.p0.y, (t.p1.x, (t.p1.y, (t.p2.x, (t.p2.y, (pos x, (pos y, tt)))))))) (at 0 1 2 3 4 5) (add (add (at 2 3 4 5 6 7) (at 4 5 0 1 6 7)) (at 0 1 2 3 6 7)) tt
  where
    at : ℕ → ℕ → ℕ → ℕ → ℕ → ℕ → Expr
    at ax ay bx by px py = sub (mul (sub (var px) (var ax)) (sub (var by) (var ay))) (mul (sub (var py) (var ay)) (sub (var bx) (var ax)))

-- ---- the area and the depths
pub area-fits : {t : Tri} → Placed t → SFits w64 (area_of t)
unfolding area_of edge_of
area-fits p =
    B.fits tt (B.sub (B.mul (B.sub p.in_x2 p.in_x0) (B.sub p.in_y1 p.in_y0)) (B.mul (B.sub p.in_y2 p.in_y0) (B.sub p.in_x1 p.in_x0)))

-- what `weighted` asks, if the triangle covers a pixel
pub weighed : {t : Tri} → Placed t → (x y : ℕ) → x < width → y < height → covers t x y ≡ true
    → Weighed (area_of t) (weight0 t x y) (weight1 t x y) (weight2 t x y) t.p0.z t.p1.z t.p2.z
unfolding covers
weighed {t} p x y hx hy h =
    record {
      in_w0 = within0 p y hy x hx;
      in_w1 = within1 p y hy x hx;
      in_w2 = within2 p y hy x hx;
      in_z0 = p.in_z0;
      in_z1 = p.in_z1;
      in_z2 = p.in_z2;
      sums = weights_sum t x y;
      inside = h;
    }

-- a number that is known to be another is read back as that
pub read_as : {z z' : ℤ} → SFits w64 z' → z ≡ z' → to_z w64 (of_z w64 z) ≡ z'
read_as {z} {z'} f e = ap (λ (n : ℤ). to_z w64 (of_z w64 n)) e ∙ to_z-of_z w64 z' f

-- the same of an answer, which is known to fit
pub read_back : (z v : ℤ) → mag z < 2 ^ hbits w64 → z ≡ v → to_z w64 (of_z w64 z) ≡ v
read_back z v f e = to_z-of_z w64 z (sfits_of f) ∙ e

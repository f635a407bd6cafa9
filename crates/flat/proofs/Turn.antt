-- A triangle of negative area draws what it draws with its corners the other way round: the area and every edge change sign. Assumes nothing.
use mathlib.Core.Path.{◌≡◌, refl, sym, ap, ◌∙◌}
use mathlib.Core.Bool.{Bool, true, false, ◌&&◌, and_comm}
use mathlib.Core.List.{List}
use Prim.Native.Nat.{ℕ, zero, suc, ◌%◌, ◌/◌, ◌<◌}
use native.Mathlib.Omega.{arith}
use borrow.Author.Tests.{ltb-true, lt-ltb, le-leb, lt-leb}
use lib.IntN.{ℤ, pos, negsuc, neg_ℤ, ◌+ℤ◌, ◌*ℤ◌, neg_ℤ-neg_ℤ}
use lib.Signed.{lt_z, le_z, quot_z}
use Rattle.laws.proofs.Ring.{ring, Expr, var, add, sub, mul, neg}
use Rattle.screen.specs.Plane.{width}
use Rattle.screen.proofs.Draw.{drawn_swap}
use Rattle.flat.specs.declared.tri.Tri.{Tri}
use Rattle.flat.specs.Edge.{edge_of, agrees_of, has_area, inside_of, weighted_of}
use Rattle.flat.specs.Tri.{Placed, area_of, weight0, weight1, weight2, covers, depth_at, shows, depth_of}
use Rattle.flat.specs.Drawing.{turned_of, TriDrawn}
use Rattle.flat.proofs.Convex.{quot_both}
use Rattle.flat.proofs.Signs.{false_true}

pub turned_placed : {t : Tri} → Placed t → Placed (turned_of t)
unfolding turned_of
turned_placed p =
    record {
      in_x0 = p.in_x0;
      in_y0 = p.in_y0;
      in_x1 = p.in_x2;
      in_y1 = p.in_y2;
      in_x2 = p.in_x1;
      in_y2 = p.in_y1;
      in_z0 = p.in_z0;
      in_z1 = p.in_z2;
      in_z2 = p.in_z1;
    }

-- ---- the edges
turned_edge : (ax ay bx by px py : ℤ) → edge_of bx by ax ay px py ≡ neg_ℤ (edge_of ax ay bx by px py)
unfolding edge_of
turned_edge ax ay bx by px py =
    ring 6 (ax, (ay, (bx, (by, (px, (py, tt)))))) (at 2 3 0 1) (neg (at 0 1 2 3)) tt
  where
    at : ℕ → ℕ → ℕ → ℕ → Expr
    at ax ay bx by = sub (mul (sub (var 4) (var ax)) (sub (var by) (var ay))) (mul (sub (var 5) (var ay)) (sub (var bx) (var ax)))

module _ (t : Tri) where
  pub turned_area : area_of (turned_of t) ≡ neg_ℤ (area_of t)
  unfolding turned_of area_of edge_of
  turned_area =
      ring 6 (t.p0.x, (t.p0.y, (t.p1.x, (t.p1.y, (t.p2.x, (t.p2.y, tt)))))) (at 0 1 4 5 2 3) (neg (at 0 1 2 3 4 5)) tt
    where
      at : ℕ → ℕ → ℕ → ℕ → ℕ → ℕ → Expr
      at ax ay bx by px py = sub (mul (sub (var px) (var ax)) (sub (var by) (var ay))) (mul (sub (var py) (var ay)) (sub (var bx) (var ax)))

  module _ (x y : ℕ) where
    turned0 : weight0 (turned_of t) x y ≡ neg_ℤ (weight0 t x y)
    unfolding turned_of weight0
    turned0 = turned_edge t.p1.x t.p1.y t.p2.x t.p2.y (pos x) (pos y)

    turned1 : weight1 (turned_of t) x y ≡ neg_ℤ (weight2 t x y)
    unfolding turned_of weight1 weight2
    turned1 = turned_edge t.p0.x t.p0.y t.p1.x t.p1.y (pos x) (pos y)

    turned2 : weight2 (turned_of t) x y ≡ neg_ℤ (weight1 t x y)
    unfolding turned_of weight1 weight2
    turned2 = turned_edge t.p2.x t.p2.y t.p0.x t.p0.y (pos x) (pos y)

-- ---- the signs
turned_le : (w : ℤ) → le_z (pos 0) (neg_ℤ w) ≡ le_z w (pos 0)
turned_le (pos zero) = refl
turned_le (pos (suc n)) = sym (lt-leb (suc n) 0 (omega arith))
turned_le (negsuc n) = le-leb 0 (suc n) (omega arith)

pub turned_up : (a : ℤ) → lt_z a (pos 0) ≡ true → lt_z (pos 0) (neg_ℤ a) ≡ true
turned_up (pos n) h = absurd (none n (ltb-true n 0 h))
  where
    none : (n : ℕ) → n < 0 → ⊥
    none n h = omega arith
turned_up (negsuc n) h = lt-ltb 0 (suc n) (omega arith)

not_up : (a : ℤ) → lt_z a (pos 0) ≡ true → lt_z (pos 0) a ≡ false
not_up (pos n) h = absurd (none n (ltb-true n 0 h))
  where
    none : (n : ℕ) → n < 0 → ⊥
    none n h = omega arith
not_up (negsuc n) h = refl

module _ (a : ℤ) (down : lt_z a (pos 0) ≡ true) where
  turned_agrees : (w : ℤ) → agrees_of (neg_ℤ a) (neg_ℤ w) ≡ agrees_of a w
  unfolding agrees_of
  turned_agrees w = rw (turned_up a down, not_up a down) (turned_le w)

  turned_inside : (w0 w1 w2 : ℤ) → inside_of (neg_ℤ a) (neg_ℤ w0) (neg_ℤ w2) (neg_ℤ w1) ≡ inside_of a w0 w1 w2
  unfolding inside_of has_area
  turned_inside w0 w1 w2 =
      rw (turned_agrees w0, turned_agrees w1, turned_agrees w2, turned_up a down, not_up a down, down)
      (ap (λ (b : Bool). agrees_of a w0 && b) (and_comm (agrees_of a w2) (agrees_of a w1)))

  turned_quot : (s : ℤ) → quot_z (neg_ℤ s) (neg_ℤ a) ≡ quot_z s a
  turned_quot s = go a down
    where
      go : (a : ℤ) → lt_z a (pos 0) ≡ true → quot_z (neg_ℤ s) (neg_ℤ a) ≡ quot_z s a
      go (pos n) h = false_true (sym (not_up (pos n) h) ∙ never n h)
        where
          never : (n : ℕ) → lt_z (pos n) (pos 0) ≡ true → lt_z (pos 0) (pos n) ≡ true
          never n h = absurd (none n (ltb-true n 0 h))
            where
              none : (n : ℕ) → n < 0 → ⊥
              none n h = omega arith
      go (negsuc n) h = sym (quot_both (neg_ℤ s) (suc n) (omega arith)) ∙ ap (λ (x : ℤ). quot_z x (negsuc n)) (neg_ℤ-neg_ℤ s)

-- ---- the drawing
module _ (t : Tri) (down : lt_z (area_of t) (pos 0) ≡ true) where
  turned_covers : (x y : ℕ) → covers (turned_of t) x y ≡ covers t x y
  unfolding covers
  turned_covers x y =
      rw (turned_area t, turned0 t x y, turned1 t x y, turned2 t x y) (turned_inside (area_of t) down (weight0 t x y) (weight1 t x y) (weight2 t x y))

  turned_depth : (x y : ℕ) → depth_at (turned_of t) x y ≡ depth_at t x y
  unfolding depth_at weighted_of turned_of
  turned_depth x y =
      rw (turned_area t, turned0 t x y, turned1 t x y, turned2 t x y, changed (weight0 t x y) (weight1 t x y) (weight2 t x y) t.p0.z t.p1.z t.p2.z)
      (turned_quot (area_of t) down (weight0 t x y *ℤ t.p0.z +ℤ weight1 t x y *ℤ t.p1.z +ℤ weight2 t x y *ℤ t.p2.z))
    where
      changed : (w0 w1 w2 z0 z1 z2 : ℤ) → neg_ℤ w0 *ℤ z0 +ℤ neg_ℤ w2 *ℤ z2 +ℤ neg_ℤ w1 *ℤ z1 ≡ neg_ℤ (w0 *ℤ z0 +ℤ w1 *ℤ z1 +ℤ w2 *ℤ z2)
      changed w0 w1 w2 z0 z1 z2 =
          ring 6 (w0, (w1, (w2, (z0, (z1, (z2, tt))))))
          (add (add (mul (neg (var 0)) (var 3)) (mul (neg (var 2)) (var 5))) (mul (neg (var 1)) (var 4)))
          (neg (add (add (mul (var 0) (var 3)) (mul (var 1) (var 4))) (mul (var 2) (var 5)))) tt

  pub turned_drawn : {lo hi : ℕ} {D D' : List ℤ} {P P' : List ℕ} → TriDrawn (turned_of t) lo hi D P D' P' → TriDrawn t lo hi D P D' P'
  unfolding shows depth_of turned_of
  turned_drawn d =
      drawn_swap (λ k old. rw (turned_covers (k % width) (k / width), turned_depth (k % width) (k / width))) (λ k. turned_depth (k % width) (k / width)) d

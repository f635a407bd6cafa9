-- A pixel with all three corners on one side of it is not covered: the weights sum the corners' distances to 0, so they are all 0, and so is the area.
-- Assumes nothing.
use mathlib.Core.Path.{◌≡◌, refl, sym, ap, ◌∙◌}
use mathlib.Core.Bool.{Bool, true, false}
use Prim.Native.Nat.{ℕ, suc, ◌+◌, ◌*◌, ◌-◌, ◌<◌, ◌≤◌}
use native.Mathlib.Nat.{mul-le-mul_left}
use native.Mathlib.Omega.{arith}
use borrow.Author.Tests.{ltb-true}
use lib.IntN.{ℤ, pos, negsuc, neg_ℤ, nat_abs, ◌+ℤ◌, ◌-ℤ◌, ◌*ℤ◌, neg_ℤ-neg_ℤ}
use lib.Signed.{lt_z}
use Rattle.laws.proofs.Ring.{ring, Expr, var, add, sub, mul, neg}
use Rattle.flat.specs.declared.tri.Tri.{Tri}
use Rattle.flat.specs.Edge.{edge_of, inside_of}
use Rattle.flat.specs.Tri.{area_of, weight0, weight1, weight2, covers}
use Rattle.flat.specs.Drawing.{Before, Beyond}
use Rattle.flat.proofs.Signs.{Signs, ups, downs, signs, false_true}
use Rattle.flat.proofs.Convex.{above, under, minus, minus_neg}
use Rattle.flat.proofs.Fits.{weights_sum}

-- three distances of one sign, none of them 0
data Side (e0 e1 e2 : ℤ) : Type 0 where
  right : (n0 n1 n2 : ℕ) → e0 ≡ pos (suc n0) → e1 ≡ pos (suc n1) → e2 ≡ pos (suc n2) → Side e0 e1 e2
  left : (n0 n1 n2 : ℕ) → e0 ≡ neg_ℤ (pos (suc n0)) → e1 ≡ neg_ℤ (pos (suc n1)) → e2 ≡ neg_ℤ (pos (suc n2)) → Side e0 e1 e2

-- ---- weights that are not all 0 do not bring such distances to 0
apart : (a n : ℕ) → a ≤ a * suc n
apart a n =
    let one : 1 ≤ suc n = omega arith in
    omega (arith, mul-le-mul_left a one)

nothing : (a0 a1 a2 n0 n1 n2 : ℕ) → pos a0 *ℤ pos (suc n0) +ℤ pos a1 *ℤ pos (suc n1) +ℤ pos a2 *ℤ pos (suc n2) ≡ pos 0 → 0 < a0 + a1 + a2 → ⊥
nothing a0 a1 a2 n0 n1 n2 e h =
    let n : a0 * suc n0 + a1 * suc n1 + a2 * suc n2 ≡ 0 = ap nat_abs e in
    omega (arith, apart a0 n0, apart a1 n1, apart a2 n2)

-- a sum whose terms all change sign
flipped : (s z : ℤ) → z ≡ neg_ℤ s → z ≡ pos 0 → s ≡ pos 0
flipped s z e f = sym (neg_ℤ-neg_ℤ s) ∙ ap neg_ℤ (sym e ∙ f)

sum : Expr → Expr → Expr → Expr
sum a b c = add (add a b) c

down_area : (area w0 w1 w2 : ℤ) (a0 a1 a2 : ℕ) → area ≡ w0 +ℤ w1 +ℤ w2 → w0 ≡ neg_ℤ (pos a0) → w1 ≡ neg_ℤ (pos a1) → w2 ≡ neg_ℤ (pos a2) → area ≡ neg_ℤ (pos (a0 + a1 + a2))
down_area area w0 w1 w2 a0 a1 a2 s p0 p1 p2 =
    (rw (p0, p1, p2) at s) ∙ ring 3 (pos a0, (pos a1, (pos a2, tt))) (add (add (neg (var 0)) (neg (var 1))) (neg (var 2))) (neg (add (add (var 0) (var 1)) (var 2))) tt

outside : (area w0 w1 w2 e0 e1 e2 : ℤ) → area ≡ w0 +ℤ w1 +ℤ w2 → w0 *ℤ e0 +ℤ w1 *ℤ e1 +ℤ w2 *ℤ e2 ≡ pos 0 → Side e0 e1 e2 → Signs area w0 w1 w2 → ⊥
unfolding sum
outside area w0 w1 w2 e0 e1 e2 s z (right n0 n1 n2 r0 r1 r2) (ups a0 a1 a2 p0 p1 p2 l) =
    let h : area ≡ pos (a0 + a1 + a2) = rw (p0, p1, p2) at s in
    nothing a0 a1 a2 n0 n1 n2 (rw (p0, p1, p2, r0, r1, r2) at z) (above (a0 + a1 + a2) (rw h at l))
outside area w0 w1 w2 e0 e1 e2 s z (left n0 n1 n2 r0 r1 r2) (ups a0 a1 a2 p0 p1 p2 l) =
    let h : area ≡ pos (a0 + a1 + a2) = rw (p0, p1, p2) at s in
    nothing a0 a1 a2 n0 n1 n2
    (flipped (pos a0 *ℤ pos (suc n0) +ℤ pos a1 *ℤ pos (suc n1) +ℤ pos a2 *ℤ pos (suc n2)) (w0 *ℤ e0 +ℤ w1 *ℤ e1 +ℤ w2 *ℤ e2)
    (rw (p0, p1, p2, r0, r1, r2)
    (ring 6 (pos a0, (pos a1, (pos a2, (pos (suc n0), (pos (suc n1), (pos (suc n2), tt))))))
    (sum (mul (var 0) (neg (var 3))) (mul (var 1) (neg (var 4))) (mul (var 2) (neg (var 5)))) (neg (sum (mul (var 0) (var 3)) (mul (var 1) (var 4)) (mul (var 2) (var 5)))) tt)) z)
    (above (a0 + a1 + a2) (rw h at l))
outside area w0 w1 w2 e0 e1 e2 s z (right n0 n1 n2 r0 r1 r2) (downs a0 a1 a2 p0 p1 p2 l) =
    let h = down_area area w0 w1 w2 a0 a1 a2 s p0 p1 p2 in
    nothing a0 a1 a2 n0 n1 n2
    (flipped (pos a0 *ℤ pos (suc n0) +ℤ pos a1 *ℤ pos (suc n1) +ℤ pos a2 *ℤ pos (suc n2)) (w0 *ℤ e0 +ℤ w1 *ℤ e1 +ℤ w2 *ℤ e2)
    (rw (p0, p1, p2, r0, r1, r2)
    (ring 6 (pos a0, (pos a1, (pos a2, (pos (suc n0), (pos (suc n1), (pos (suc n2), tt))))))
    (sum (mul (neg (var 0)) (var 3)) (mul (neg (var 1)) (var 4)) (mul (neg (var 2)) (var 5))) (neg (sum (mul (var 0) (var 3)) (mul (var 1) (var 4)) (mul (var 2) (var 5)))) tt)) z)
    (under (a0 + a1 + a2) (rw h at l))
outside area w0 w1 w2 e0 e1 e2 s z (left n0 n1 n2 r0 r1 r2) (downs a0 a1 a2 p0 p1 p2 l) =
    let h = down_area area w0 w1 w2 a0 a1 a2 s p0 p1 p2 in
    nothing a0 a1 a2 n0 n1 n2
    (sym (rw (p0, p1, p2, r0, r1, r2)
    (ring 6 (pos a0, (pos a1, (pos a2, (pos (suc n0), (pos (suc n1), (pos (suc n2), tt))))))
    (sum (mul (neg (var 0)) (neg (var 3))) (mul (neg (var 1)) (neg (var 4))) (mul (neg (var 2)) (neg (var 5)))) (sum (mul (var 0) (var 3)) (mul (var 1) (var 4)) (mul (var 2) (var 5))) tt)) ∙ z)
    (under (a0 + a1 + a2) (rw h at l))

-- ---- distances from a pixel
ahead : (a : ℤ) (x : ℕ) → lt_z (pos x) a ≡ true → (n : ℕ) × (a -ℤ pos x ≡ pos (suc n))
ahead (pos m) x h =
    let l : x < m = ltb-true x m h in
    (m - suc x, minus m x (omega arith) ∙ ap pos (omega arith))
ahead (negsuc m) x h = false_true h

behind : (a : ℤ) (x : ℕ) → lt_z a (pos x) ≡ true → (n : ℕ) × (a -ℤ pos x ≡ neg_ℤ (pos (suc n)))
behind (pos m) x h =
    let l : m < x = ltb-true m x h in
    let e : x - m ≡ suc (x - suc m) = omega arith in
    (x - suc m, minus_neg m x (omega arith) ∙ ap (λ (n : ℕ). neg_ℤ (pos n)) e)
behind (negsuc m) x h =
    let e : suc m + x ≡ suc (m + x) = omega arith in
    (m + x, ring 2 (pos (suc m), (pos x, tt)) (sub (neg (var 0)) (var 1)) (neg (add (var 0) (var 1))) tt ∙ ap (λ (n : ℕ). neg_ℤ (pos n)) e)

side_before : (x : ℕ) (a b c : ℤ) → Before x a b c → Side (a -ℤ pos x) (b -ℤ pos x) (c -ℤ pos x)
side_before x a b c h =
    let (n0, e0) = ahead a x h.first in
    let (n1, e1) = ahead b x h.second in
    let (n2, e2) = ahead c x h.third in
    right n0 n1 n2 e0 e1 e2

side_beyond : (x : ℕ) (a b c : ℤ) → Beyond x a b c → Side (a -ℤ pos x) (b -ℤ pos x) (c -ℤ pos x)
side_beyond x a b c h =
    let (n0, e0) = behind a x h.first in
    let (n1, e1) = behind b x h.second in
    let (n2, e2) = behind c x h.third in
    left n0 n1 n2 e0 e1 e2

-- ---- the weights sum the distances to 0, across and down
at : ℕ → ℕ → ℕ → ℕ → Expr
at ax ay bx by = sub (mul (sub (var 6) (var ax)) (sub (var by) (var ay))) (mul (sub (var 7) (var ay)) (sub (var bx) (var ax)))

module _ (t : Tri) (x y : ℕ) where
  across : weight0 t x y *ℤ (t.p0.x -ℤ pos x) +ℤ weight1 t x y *ℤ (t.p1.x -ℤ pos x) +ℤ weight2 t x y *ℤ (t.p2.x -ℤ pos x) ≡ pos 0
  unfolding weight0 weight1 weight2 edge_of at sum
  across =
      ring 8 (t.p0.x, (t.p0.y, (t.p1.x, (t.p1.y, (t.p2.x, (t.p2.y, (pos x, (pos y, tt))))))))
      (sum (mul (at 2 3 4 5) (sub (var 0) (var 6))) (mul (at 4 5 0 1) (sub (var 2) (var 6))) (mul (at 0 1 2 3) (sub (var 4) (var 6)))) (var 8) tt

  down : weight0 t x y *ℤ (t.p0.y -ℤ pos y) +ℤ weight1 t x y *ℤ (t.p1.y -ℤ pos y) +ℤ weight2 t x y *ℤ (t.p2.y -ℤ pos y) ≡ pos 0
  unfolding weight0 weight1 weight2 edge_of at sum
  down =
      ring 8 (t.p0.x, (t.p0.y, (t.p1.x, (t.p1.y, (t.p2.x, (t.p2.y, (pos x, (pos y, tt))))))))
      (sum (mul (at 2 3 4 5) (sub (var 1) (var 7))) (mul (at 4 5 0 1) (sub (var 3) (var 7))) (mul (at 0 1 2 3) (sub (var 5) (var 7)))) (var 8) tt

  aside : (e0 e1 e2 : ℤ) → weight0 t x y *ℤ e0 +ℤ weight1 t x y *ℤ e1 +ℤ weight2 t x y *ℤ e2 ≡ pos 0 → Side e0 e1 e2 → covers t x y ≡ false
  unfolding covers
  aside e0 e1 e2 z s = go (inside_of (area_of t) (weight0 t x y) (weight1 t x y) (weight2 t x y)) refl
    where
      go : (b : Bool) → inside_of (area_of t) (weight0 t x y) (weight1 t x y) (weight2 t x y) ≡ b → b ≡ false
      go true h = absurd (outside (area_of t) (weight0 t x y) (weight1 t x y) (weight2 t x y) e0 e1 e2 (weights_sum t x y) z s (signs (area_of t) (weight0 t x y) (weight1 t x y) (weight2 t x y) h))
      go false h = refl

  pub left_of : Before x t.p0.x t.p1.x t.p2.x → covers t x y ≡ false
  left_of h = aside (t.p0.x -ℤ pos x) (t.p1.x -ℤ pos x) (t.p2.x -ℤ pos x) across (side_before x t.p0.x t.p1.x t.p2.x h)

  pub right_of : Beyond x t.p0.x t.p1.x t.p2.x → covers t x y ≡ false
  right_of h = aside (t.p0.x -ℤ pos x) (t.p1.x -ℤ pos x) (t.p2.x -ℤ pos x) across (side_beyond x t.p0.x t.p1.x t.p2.x h)

  pub above_it : Before y t.p0.y t.p1.y t.p2.y → covers t x y ≡ false
  above_it h = aside (t.p0.y -ℤ pos y) (t.p1.y -ℤ pos y) (t.p2.y -ℤ pos y) down (side_before y t.p0.y t.p1.y t.p2.y h)

  pub below_it : Beyond y t.p0.y t.p1.y t.p2.y → covers t x y ≡ false
  below_it h = aside (t.p0.y -ℤ pos y) (t.p1.y -ℤ pos y) (t.p2.y -ℤ pos y) down (side_beyond y t.p0.y t.p1.y t.p2.y h)

-- The products and their sums are within bounds that compute; the quotient is of 32 bits since the weights share a sign and sum to the area (`Convex`).
use native.Mathlib.Omega.{arith}
use lib.IntN.{ℤ, ◌+ℤ◌, ◌*ℤ◌}
use lib.Signed.{quot_z}
use mir.Syntax.{w32, w64}
use mir.Val.{SFits}
use mir.ValLaws.{to_z-of_z}
use Rattle.laws.proofs.Bound as B
use Rattle.flat.specs.Edge.{Weighed, weighted_of}
use Rattle.flat.proofs.Signs.{signs, divisor}
use Rattle.flat.proofs.Convex.{mean_mag}
use Rattle.flat.proofs.edge.weighted.Goals as goal

abbrev Known : ℤ → ℤ → ℤ → ℤ → ℤ → ℤ → ℤ → Type 0
Known area w0 w1 w2 z0 z1 z2 =
    let s = w0 *ℤ z0 +ℤ w1 *ℤ z1 in
    let q = quot_z (s +ℤ w2 *ℤ z2) area in
    SFits w64 w0 × SFits w64 w1 × SFits w64 w2 × SFits w64 z0 × SFits w64 z1 × SFits w64 z2
    × SFits w64 (w0 *ℤ z0) × SFits w64 (w1 *ℤ z1) × SFits w64 (w2 *ℤ z2) × SFits w64 s × SFits w64 (s +ℤ w2 *ℤ z2)
    × SFits w64 q × SFits w32 q

known : {area w0 w1 w2 z0 z1 z2 : ℤ} → Weighed area w0 w1 w2 z0 z1 z2 → Known area w0 w1 w2 z0 z1 z2
known n =
    let p = B.mul n.in_w0 (B.within32 n.in_z0) in
    let q = B.mul n.in_w1 (B.within32 n.in_z1) in
    let r = B.mul n.in_w2 (B.within32 n.in_z2) in
    let m = mean_mag _ _ _ _ _ _ _ n.in_z0 n.in_z1 n.in_z2 n.sums (signs _ _ _ _ n.inside) in (
      B.fits tt n.in_w0,
      B.fits tt n.in_w1,
      B.fits tt n.in_w2,
      B.fits tt (B.within32 n.in_z0),
      B.fits tt (B.within32 n.in_z1),
      B.fits tt (B.within32 n.in_z2),
      B.fits tt p,
      B.fits tt q,
      B.fits tt r,
      B.fits tt (B.add p q),
      B.fits tt (B.add (B.add p q) r),
      record { sfits = omega (arith, m) },
      record { sfits = m },
    )

pub overflow_mul-result : goal.overflow_mul-result
overflow_mul-result c = let area = c.ranges.area in
    let (w0, w1, w2, z0, z1, z2, p, q, r, pq, s, d, e) = known c.requires in simp to_z-of_z p

pub overflow_mul-result-2 : goal.overflow_mul-result-2
overflow_mul-result-2 c = let area = c.ranges.area in
    let (w0, w1, w2, z0, z1, z2, p, q, r, pq, s, d, e) = known c.requires in simp to_z-of_z q

pub overflow_add-result : goal.overflow_add-result
overflow_add-result c = let area = c.ranges.area in
    let (w0, w1, w2, z0, z1, z2, p, q, r, pq, s, d, e) = known c.requires in simp to_z-of_z pq

pub overflow_mul-result-3 : goal.overflow_mul-result-3
overflow_mul-result-3 c = let area = c.ranges.area in
    let (w0, w1, w2, z0, z1, z2, p, q, r, pq, s, d, e) = known c.requires in simp to_z-of_z r

pub overflow_add-result-2 : goal.overflow_add-result-2
overflow_add-result-2 c = let area = c.ranges.area in
    let (w0, w1, w2, z0, z1, z2, p, q, r, pq, s, d, e) = known c.requires in simp to_z-of_z s

pub nonzero_div-result : goal.nonzero_div-result
nonzero_div-result c = let area = c.ranges.area in
    let (w0, w1, w2, z0, z1, z2, p, q, r, pq, s, d, e) = known c.requires in
    (divisor _ _ _ _ area (signs _ _ _ _ c.requires.inside), simp to_z-of_z d)

pub overflow_cast-result : goal.overflow_cast-result
overflow_cast-result c = let area = c.ranges.area in
    let (w0, w1, w2, z0, z1, z2, p, q, r, pq, s, d, e) = known c.requires in simp to_z-of_z e

pub returns : goal.returns
unfolding weighted_of
returns c = let area = c.ranges.area in
    let (w0, w1, w2, z0, z1, z2, p, q, r, pq, s, d, e) = known c.requires in simp to_z-of_z

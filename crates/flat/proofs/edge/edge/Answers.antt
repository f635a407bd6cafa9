-- Each step's result is within a bound that computes (`Rattle.laws.proofs.Bound`), so it fits, and what a local's bits are read back as is the number. Assumes nothing.
use lib.IntN.{◌-ℤ◌, ◌*ℤ◌}
use mir.Syntax.{w64}
use mir.Val.{SFits}
use mir.ValLaws.{to_z-of_z}
use Rattle.laws.proofs.Bound as B
use Rattle.flat.specs.declared.tri.Corner.{Corner}
use Rattle.flat.specs.Edge.{Near, edge_of}
use Rattle.flat.proofs.edge.edge.Goals as goal

abbrev Known : Corner → Corner → Corner → Type 0
Known a b p =
    SFits w64 a.x × SFits w64 a.y × SFits w64 b.x × SFits w64 b.y × SFits w64 p.x × SFits w64 p.y
    × SFits w64 (p.x -ℤ a.x) × SFits w64 (b.y -ℤ a.y) × SFits w64 (p.y -ℤ a.y) × SFits w64 (b.x -ℤ a.x)
    × SFits w64 ((p.x -ℤ a.x) *ℤ (b.y -ℤ a.y)) × SFits w64 ((p.y -ℤ a.y) *ℤ (b.x -ℤ a.x))
    × SFits w64 ((p.x -ℤ a.x) *ℤ (b.y -ℤ a.y) -ℤ (p.y -ℤ a.y) *ℤ (b.x -ℤ a.x))

known : (a b p : Corner) → Near a.x a.y b.x b.y p.x p.y → Known a b p
known a b d n =
    let p = B.sub n.near_px n.near_ax in
    let q = B.sub n.near_by n.near_ay in
    let r = B.sub n.near_py n.near_ay in
    let s = B.sub n.near_bx n.near_ax in (
      B.fits tt n.near_ax,
      B.fits tt n.near_ay,
      B.fits tt n.near_bx,
      B.fits tt n.near_by,
      B.fits tt n.near_px,
      B.fits tt n.near_py,
      B.fits tt p,
      B.fits tt q,
      B.fits tt r,
      B.fits tt s,
      B.fits tt (B.mul p q),
      B.fits tt (B.mul r s),
      B.fits tt (B.sub (B.mul p q) (B.mul r s)),
    )

pub overflow_sub-result : goal.overflow_sub-result
overflow_sub-result c = let (ax, ay, bx, by, px, py, p, q, r, s, pq, rs, e) = known c.args.a c.args.b c.args.p c.requires in simp to_z-of_z p

pub overflow_sub-result-2 : goal.overflow_sub-result-2
overflow_sub-result-2 c = let (ax, ay, bx, by, px, py, p, q, r, s, pq, rs, e) = known c.args.a c.args.b c.args.p c.requires in simp to_z-of_z q

pub overflow_mul-result : goal.overflow_mul-result
overflow_mul-result c = let (ax, ay, bx, by, px, py, p, q, r, s, pq, rs, e) = known c.args.a c.args.b c.args.p c.requires in simp to_z-of_z pq

pub overflow_sub-result-3 : goal.overflow_sub-result-3
overflow_sub-result-3 c = let (ax, ay, bx, by, px, py, p, q, r, s, pq, rs, e) = known c.args.a c.args.b c.args.p c.requires in simp to_z-of_z r

pub overflow_sub-result-4 : goal.overflow_sub-result-4
overflow_sub-result-4 c = let (ax, ay, bx, by, px, py, p, q, r, s, pq, rs, e) = known c.args.a c.args.b c.args.p c.requires in simp to_z-of_z s

pub overflow_mul-result-2 : goal.overflow_mul-result-2
overflow_mul-result-2 c = let (ax, ay, bx, by, px, py, p, q, r, s, pq, rs, e) = known c.args.a c.args.b c.args.p c.requires in simp to_z-of_z rs

pub overflow_sub-result-5 : goal.overflow_sub-result-5
overflow_sub-result-5 c = let (ax, ay, bx, by, px, py, p, q, r, s, pq, rs, e) = known c.args.a c.args.b c.args.p c.requires in simp to_z-of_z e

pub returns : goal.returns
unfolding edge_of
returns c = let (ax, ay, bx, by, px, py, p, q, r, s, pq, rs, e) = known c.args.a c.args.b c.args.p c.requires in simp to_z-of_z

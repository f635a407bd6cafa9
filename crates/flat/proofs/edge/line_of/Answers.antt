-- Each step's result is within a bound that computes, so it fits. Assumes nothing.
use lib.IntN.{ℤ, ◌+ℤ◌, ◌-ℤ◌, ◌*ℤ◌}
use mir.Syntax.{w64}
use mir.Val.{SFits}
use mir.ValLaws.{to_z-of_z}
use Rattle.laws.proofs.Bound as B
use Rattle.flat.specs.declared.tri.Corner.{Corner}
use Rattle.flat.specs.Edge.{Near}
use Rattle.flat.specs.Row.{line_of}
use Rattle.flat.proofs.edge.line_of.Goals as goal

abbrev Known : Corner → Corner → ℤ → Type 0
Known a b py =
    let p = (b.y -ℤ a.y) *ℤ a.x in
    let q = (py -ℤ a.y) *ℤ (b.x -ℤ a.x) in
    SFits w64 a.x × SFits w64 a.y × SFits w64 b.x × SFits w64 b.y × SFits w64 py
    × SFits w64 (b.y -ℤ a.y) × SFits w64 (py -ℤ a.y) × SFits w64 (b.x -ℤ a.x) × SFits w64 p × SFits w64 q × SFits w64 (p +ℤ q)

known : (a b : Corner) (py : ℤ) → Near a.x a.y b.x b.y py py → Known a b py
known a b py n =
    let rise = B.sub n.near_by n.near_ay in
    let down = B.sub n.near_py n.near_ay in
    let run = B.sub n.near_bx n.near_ax in
    let p = B.mul rise n.near_ax in
    let q = B.mul down run in (
      B.fits tt n.near_ax,
      B.fits tt n.near_ay,
      B.fits tt n.near_bx,
      B.fits tt n.near_by,
      B.fits tt n.near_py,
      B.fits tt rise,
      B.fits tt down,
      B.fits tt run,
      B.fits tt p,
      B.fits tt q,
      B.fits tt (B.add p q),
    )

pub overflow_sub-result : goal.overflow_sub-result
overflow_sub-result c = let (ax, ay, bx, by, py, rise, down, run, p, q, e) = known c.args.a c.args.b c.args.py c.requires in simp to_z-of_z rise

pub overflow_sub-result-2 : goal.overflow_sub-result-2
overflow_sub-result-2 c = let (ax, ay, bx, by, py, rise, down, run, p, q, e) = known c.args.a c.args.b c.args.py c.requires in simp to_z-of_z rise

pub overflow_mul-result : goal.overflow_mul-result
overflow_mul-result c = let (ax, ay, bx, by, py, rise, down, run, p, q, e) = known c.args.a c.args.b c.args.py c.requires in simp to_z-of_z p

pub overflow_sub-result-3 : goal.overflow_sub-result-3
overflow_sub-result-3 c = let (ax, ay, bx, by, py, rise, down, run, p, q, e) = known c.args.a c.args.b c.args.py c.requires in simp to_z-of_z down

pub overflow_sub-result-4 : goal.overflow_sub-result-4
overflow_sub-result-4 c = let (ax, ay, bx, by, py, rise, down, run, p, q, e) = known c.args.a c.args.b c.args.py c.requires in simp to_z-of_z run

pub overflow_mul-result-2 : goal.overflow_mul-result-2
overflow_mul-result-2 c = let (ax, ay, bx, by, py, rise, down, run, p, q, e) = known c.args.a c.args.b c.args.py c.requires in simp to_z-of_z q

pub overflow_add-result : goal.overflow_add-result
overflow_add-result c = let (ax, ay, bx, by, py, rise, down, run, p, q, e) = known c.args.a c.args.b c.args.py c.requires in simp to_z-of_z e

pub returns : goal.returns
unfolding line_of
returns c = let (ax, ay, bx, by, py, rise, down, run, p, q, e) = known c.args.a c.args.b c.args.py c.requires in simp to_z-of_z

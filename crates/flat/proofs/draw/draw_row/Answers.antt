-- Assumes nothing.
use mathlib.Core.Path.{refl}
use Prim.Native.Nat.{◌+◌, ◌*◌, ◌<◌}
use native.Mathlib.Omega.{arith}
use borrow.Author.Rules.{rules}
use lib.ListN.{length}
use mathlib.Core.Path.{◌≡◌}
use Rattle.screen.specs.Plane.{width}
use Rattle.screen.proofs.Draw.{drawn_next}
use Rattle.flat.proofs.Cell.{drawn_row_clear}
use Rattle.flat.proofs.draw.draw_row.Goals as goal

pub loop-x-init : goal.loop-x-init
loop-x-init c = let box = c.args.s.boxed in
    (box.on_left, drawn_row_clear c.args.s.tri c.args.y 0 c.args.s.bounds.left _ _ _ _ box.on_left (λ x p q. box.before_left x c.args.y q) (omega arith) refl)

pub loop-x-preserved : goal.loop-x-preserved
loop-x-preserved c = let long : length c.args.depth.now ≡ 76800 = search rules in
    let in_row : c.loop-x.x < width = omega (arith, c.loop-x-test.true, c.args.s.boxed.on_right) in (
      omega arith,
      drawn_next c.loop-x.invariant.1 c.draw_pixel.ensures refl (omega arith) (omega arith) (omega arith) (omega (arith, long, c.requires)),
    )

pub returns : goal.returns
returns c = let long : length c.args.depth.now ≡ 76800 = search rules in
    let x = c.loop-x.x in
    drawn_next c.loop-x.invariant.1
    (drawn_row_clear c.args.s.tri c.args.y x width (c.args.y * width + x) (c.args.y * width + width) _ _ (omega arith) (λ i p q. c.args.s.boxed.from_right i c.args.y (omega (arith, c.loop-x-test.false)) q) refl refl)
    refl refl (omega arith) (omega arith)
    (omega (arith, long, c.requires))

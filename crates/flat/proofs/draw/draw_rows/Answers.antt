-- Assumes nothing.
use mathlib.Core.Path.{refl}
use Prim.Native.Nat.{◌*◌, ◌<◌}
use native.Mathlib.Omega.{arith}
use borrow.Author.Rules.{rules}
use lib.ListN.{length}
use mathlib.Core.Path.{◌≡◌}
use Rattle.screen.specs.Plane.{width, height}
use Rattle.screen.specs.Draw.{pixels}
use Rattle.screen.proofs.Draw.{drawn_next}
use Rattle.flat.proofs.Cell.{drawn-clear}
use Rattle.flat.proofs.draw.draw_rows.Goals as goal

pub loop-y-init : goal.loop-y-init
loop-y-init c = let box = c.args.s.boxed in
    (box.on_top, drawn-clear _ _ _ _ _ (λ k p q. box.above_top _ _ (omega arith)))

pub loop-y-preserved : goal.loop-y-preserved
loop-y-preserved c = let long : length c.args.depth.now ≡ 76800 = search rules in
    let in-plane : c.loop-y.y < height = omega (arith, c.loop-y-test.true, c.args.s.boxed.on_bottom) in (
      omega arith,
      drawn_next c.loop-y.invariant.1 c.draw_row.ensures refl (omega arith) (omega arith) (omega arith) (omega (arith, long)),
    )

pub returns : goal.returns
returns c = let long : length c.args.depth.now ≡ 76800 = search rules in
    drawn_next c.loop-y.invariant.1
    (drawn-clear _ (c.loop-y.y * width) pixels _ _ (λ k p q. c.args.s.boxed.from_bottom _ _ (omega (arith, c.loop-y-test.false)) (omega arith)))
    refl refl (omega arith) (omega arith) (omega (arith, long))

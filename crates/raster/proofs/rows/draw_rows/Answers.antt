use Rattle.std.proofs.Common.{◌*◌, ◌<◌, ◌≤◌, min, refl, arith}
use Rattle.screen.specs.Plane.{width, height}
use Rattle.screen.specs.Draw.{pixels}
use Rattle.screen.proofs.Draw.{drawn_next}
use Rattle.raster.proofs.Cell.{above_top, from_bottom, drawn-clear}
use Rattle.raster.proofs.rows.draw_rows.Goals as goal

pub loop-y-init : goal.loop-y-init
loop-y-init c = (omega arith, drawn-clear c.args.texels.now c.args.ink c.args.f _ _ _ _ (λ k p q. above_top c.args.f.bounds _ _ (omega arith)))

pub draw_row-requires : goal.draw_row-requires
draw_row-requires c = let v = c.loop-y.invariant in
    let g = c.requires in
    record { ready = record { of_right = g.of_right; of_bottom = g.of_bottom; stored = g.stored }; top_le_y = (v.0, c.loop-y-test.true) }

pub loop-y-preserved : goal.loop-y-preserved
loop-y-preserved c = let call = c.draw_row in
    let v = c.loop-y.invariant in
    let g = c.requires in
    let in-plane : c.loop-y.y < height = omega (arith, c.loop-y-test.true, g.of_bottom) in (
      omega arith,
      drawn_next v.1 call.ensures (omega arith) (omega arith) (omega arith) (omega arith) (omega arith),
    )

pub returns : goal.returns
returns c = let y = c.loop-y.y in
    let done : c.args.f.bounds.bottom ≤ y = c.loop-y-test.false in
    drawn_next c.loop-y.invariant.1 (drawn-clear c.args.texels.now c.args.ink c.args.f (min y height * width) pixels _ _ (λ k p q. from_bottom c.args.f.bounds _ _ (omega (arith, done, p, q))))
    refl refl (omega arith) (omega arith) (omega arith)

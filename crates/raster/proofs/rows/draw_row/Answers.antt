use Rattle.std.proofs.Common.{◌+◌, ◌*◌, ◌<◌, ◌≤◌, min, refl, arith}
use Rattle.screen.specs.Plane.{width}
use Rattle.screen.proofs.Draw.{drawn_next}
use Rattle.raster.proofs.Cell.{in_bounds, before_left, from_right, drawn-clear}
use Rattle.raster.proofs.rows.draw_row.Goals as goal

pub edges_of-edges-requires : goal.edges_of-edges-requires
edges_of-edges-requires c = omega (arith, c.requires.ready.of_bottom, c.requires.top_le_y)

pub loop-x-init : goal.loop-x-init
loop-x-init c = (omega arith, drawn-clear c.args.texels.now c.args.ink c.args.f _ _ _ _ (λ k p q. before_left c.args.f.bounds _ _ (omega arith)))

pub draw_pixel-requires : goal.draw_pixel-requires
draw_pixel-requires c = let v = c.loop-x.invariant in
    let g = c.requires.ready in
    let hi = c.loop-x-test.true in record { ready = record { of_right = g.of_right; of_bottom = g.of_bottom; stored = g.stored }; inside = record { in_x = omega (arith, hi, g.of_right); in_y = omega (arith, g.of_bottom, c.requires.top_le_y); in_box = in_bounds c.args.f.bounds c.loop-x.x c.args.y v.0 hi c.requires.top_le_y.0 c.requires.top_le_y.1 }; edges_value = c.edges_of-edges.ensures }

pub loop-x-preserved : goal.loop-x-preserved
loop-x-preserved c = let call = c.draw_pixel in
    let v = c.loop-x.invariant in
    let g = c.requires.ready in
    let in_row : c.loop-x.x < width = omega (arith, c.loop-x-test.true, g.of_right) in (
      omega arith,
      drawn_next v.1 call.ensures (omega arith) (omega arith) (omega arith) (omega arith) (omega (arith, g.of_bottom, c.requires.top_le_y)),
    )

pub returns : goal.returns
returns c = let g = c.requires.ready in
    let x = c.loop-x.x in
    let done : c.args.f.bounds.right ≤ x = c.loop-x-test.false in
    drawn_next c.loop-x.invariant.1 (drawn-clear c.args.texels.now c.args.ink c.args.f (c.args.y * width + min x width) (c.args.y * width + width) _ _ (λ k p q. from_right c.args.f.bounds _ _ (omega (arith, done, p, q))))
    refl refl (omega arith) (omega arith) (omega (arith, g.of_bottom, c.requires.top_le_y))

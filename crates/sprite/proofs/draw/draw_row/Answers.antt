-- Assumes nothing.
use mathlib.Core.Path.{refl}
use Prim.Native.Nat.{◌+◌, ◌*◌, ◌≤◌}
use native.Mathlib.Omega.{arith}
use Rattle.laws.proofs.Cells.{range_next}
use Rattle.screen.specs.Plane.{width}
use Rattle.sprite.proofs.Rows.{row_fits, place_is, row_clear}
use Rattle.sprite.proofs.draw.draw_row.Goals as goal

pub overflow_mul-first : goal.overflow_mul-first
overflow_mul-first c = let b : c.args.row * c.args.cut.sprite.stride ≤ 1048576 = row_fits c.args.cut.sprite c.args.cut.placed c.requires.at_row in
    omega arith

pub overflow_add-first-2 : goal.overflow_add-first-2
overflow_add-first-2 c = let b : c.args.row * c.args.cut.sprite.stride ≤ 1048576 = row_fits c.args.cut.sprite c.args.cut.placed c.requires.at_row in
    omega (arith, c.args.cut.placed.in_width, c.args.cut.placed.top_width, c.requires.reached.in_sprite)

pub loop-x-init : goal.loop-x-init
loop-x-init c = let r = c.requires.reached in
    (r.ordered, row_clear c.args.cut.sprite c.args.cut.texels.now c.args.y 0 c.args.columns.start _ _ _ (omega (arith, r.ordered, r.on_screen)) (λ x p q. r.in_front x q) (omega arith) refl)

pub overflow_add-first-in-loop-x : goal.overflow_add-first-in-loop-x
overflow_add-first-in-loop-x c = let b : c.args.row * c.args.cut.sprite.stride ≤ 1048576 = row_fits c.args.cut.sprite c.args.cut.placed c.requires.at_row in
    omega (arith, c.args.cut.placed.in_width, c.args.cut.placed.top_width, c.requires.reached.in_sprite, c.requires.reached.on_screen, c.loop-x-test.true)

pub draw_texel-requires-clause-n_value : goal.draw_texel-requires-clause-n_value
draw_texel-requires-clause-n_value c =
    place_is c.args.cut.sprite c.loop-x.x c.args.y c.args.row c.args.columns.skip c.args.columns.start c.requires.at_row.is_row (c.requires.reached.place c.loop-x.x (omega arith) c.loop-x-test.true)

pub loop-x-preserved : goal.loop-x-preserved
loop-x-preserved c = (
  omega (arith, c.loop-x-test.true),
  range_next 0 _ (c.args.y * width * 4) ((c.args.y * width + c.loop-x.x) * 4) _ _ _ _ _ _ c.loop-x.invariant.1 c.draw_texel.ensures refl (omega arith) (omega arith) (omega arith),
)

pub returns : goal.returns
returns c = let r = c.requires.reached in
    let x = c.loop-x.x in
    range_next 0 _ (c.args.y * width * 4) ((c.args.y * width + x) * 4) _ _ _ _ _ _ c.loop-x.invariant.1
    (row_clear c.args.cut.sprite c.args.cut.texels.now c.args.y x width ((c.args.y * width + x) * 4) ((c.args.y * width + width) * 4) _ (omega arith) (λ k p q. r.behind k (omega (arith, c.loop-x-test.false)) q) refl refl)
    refl refl (omega arith) (omega (arith, c.loop-x.invariant.0, r.on_screen))

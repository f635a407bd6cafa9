-- Assumes nothing.
use mathlib.Core.Path.{refl, ◌∙◌}
use Prim.Native.Nat.{◌*◌}
use native.Mathlib.Omega.{arith}
use borrow.Author.Rules.{rules}
use lib.ListN.{length}
use mathlib.Core.Path.{◌≡◌}
use Rattle.laws.proofs.Cells.{range_next, range_all}
use Rattle.screen.specs.Plane.{width, height}
use Rattle.sprite.specs.Sprite.{sprite_plane}
use Rattle.sprite.proofs.Rows.{rows_clear}
use Rattle.sprite.proofs.draw.draw_rows.Goals as goal

pub loop-y-init : goal.loop-y-init
loop-y-init c = let r = c.requires.reached_2 in
    (r.ordered, rows_clear c.args.cut.sprite c.args.cut.texels.now 0 c.args.rows.start _ (λ y p q. r.in_front y q))

pub loop-y-preserved : goal.loop-y-preserved
loop-y-preserved c = (
  omega (arith, c.loop-y-test.true),
  range_next 0 _ 0 (c.loop-y.y * width * 4) _ _ _ _ _ _ c.loop-y.invariant.1 c.draw_row.ensures refl (omega arith) (omega arith) (omega arith),
)

pub returns : goal.returns
unfolding sprite_plane
returns c = let long : length c.args.plane.now ≡ 307200 = search rules in
    let r = c.requires.reached_2 in
    let y = c.loop-y.y in
    range_next 0 _ 0 (y * width * 4) (y * width * 4) (height * width * 4) (height * width * 4) _ _ _ c.loop-y.invariant.1
    (rows_clear c.args.cut.sprite c.args.cut.texels.now y height _ (λ k p q. r.behind k (omega (arith, c.loop-y-test.false)) q))
    refl refl (omega arith) (omega (arith, c.loop-y.invariant.0, r.on_screen))
    ∙ range_all 0 _ (height * width * 4) _ (omega (arith, long))

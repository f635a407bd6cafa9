-- Four rows are filled, and the law of the tile does the rest. Assumes nothing.
use mathlib.Core.Path.{◌∙◌}
use native.Mathlib.Omega.{arith}
use Rattle.laws.proofs.Cells.{range_none, range_next, range_end, range_all}
use Rattle.screen.proofs.Tile.{rows_painted}
use Rattle.screen.proofs.plane.fill.Goals as goal

pub loop-y-init : goal.loop-y-init
loop-y-init c = range_none 0 _ _ _ _ (omega arith)

pub loop-y-preserved : goal.loop-y-preserved
loop-y-preserved c = range_next 0 _ _ _ _ _ _ _ _ _ c.loop-y.invariant c.fill_row.ensures (omega arith) (omega arith) (omega arith) (omega arith)

pub returns : goal.returns
returns c =
    let tile = range_end _ _ _ _ _ _ c.loop-y.invariant (omega arith) in
    rows_painted _ _ _ _ c.requires tile c.repeat_before.ensures ∙ range_all 0 _ _ _ (omega (arith, c.requires))

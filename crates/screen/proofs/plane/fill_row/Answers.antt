-- Four pixels are written, and the law of the tile does the rest. Assumes nothing.
use native.Mathlib.Omega.{arith}
use Rattle.laws.proofs.Cells.{range_none, range_next, range_end}
use Rattle.screen.proofs.Tile.{row_painted}
use Rattle.screen.proofs.plane.fill_row.Goals as goal

pub loop-x-init : goal.loop-x-init
loop-x-init c = range_none 0 _ _ _ _ (omega arith)

pub loop-x-preserved : goal.loop-x-preserved
loop-x-preserved c = range_next 0 _ _ _ _ _ _ _ _ _ c.loop-x.invariant c.write_pixel.ensures (omega arith) (omega arith) (omega arith) (omega arith)

pub returns : goal.returns
returns c =
    let tile = range_end _ _ _ _ _ _ c.loop-x.invariant (omega arith) in
    row_painted _ _ _ _ c.requires.plane_len _ c.requires.y_lt_height tile c.repeat_before.ensures

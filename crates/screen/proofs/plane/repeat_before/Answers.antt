-- Assumes nothing.
use mathlib.Core.Path.{refl}
use Prim.Native.Nat.{◌<◌}
use native.Mathlib.Omega.{arith}
use lib.ListN.{length}
use Rattle.laws.proofs.Cells.{range_none, range_store}
use Rattle.screen.proofs.Echo.{echo_turn}
use Rattle.screen.proofs.plane.repeat_before.Goals as goal

pub loop-i-init : goal.loop-i-init
loop-i-init c = range_none 0 _ _ _ _ (omega arith)

pub loop-i-preserved : goal.loop-i-preserved
loop-i-preserved c = let loop = c.loop-i in
    let below : loop.i < length c.args.plane.now = omega arith in
    range_store 0 _ _ _ _ _ _ _ loop.invariant (omega arith) below refl (echo_turn _ _ _ c.requires.size_nonzero c.requires.size_le_start _ _ _ loop.invariant (omega arith) below)

-- Assumes nothing.
use mathlib.Core.Path.{refl}
use native.Mathlib.Omega.{arith}
use Rattle.laws.proofs.Paste.{paste_turn}
use Rattle.store.proofs.words.write_at.Goals as goal

pub loop-i-preserved : goal.loop-i-preserved
loop-i-preserved c = let args = c.args in
    paste_turn 0 c.loop-i.store args.store.now args.at args.words.now c.loop-i.i _ c.loop-i.invariant refl (omega arith) (omega arith)

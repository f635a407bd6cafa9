-- Assumes nothing.
use native.Mathlib.Omega.{arith}
use Rattle.laws.proofs.Paste.{zero_turn}
use Rattle.store.proofs.words.clear.Goals as goal

pub loop-i-preserved : goal.loop-i-preserved
loop-i-preserved c = let args = c.args in
    zero_turn c.loop-i.store args.store.now args.at args.n c.loop-i.i c.loop-i.invariant (omega arith) (omega arith)

-- Assumes nothing.
use mathlib.Core.Path.{refl}
use Rattle.flat.specs.Words.{flat_verdict}
use Rattle.flat.proofs.tri.verdict_of.Goals as goal

pub loop-i-init : goal.loop-i-init
unfolding flat_verdict
loop-i-init c = refl

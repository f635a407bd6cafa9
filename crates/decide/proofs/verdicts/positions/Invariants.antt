-- The positions so far are finite. Assumes nothing.
use Rattle.std.proofs.Common.{◌≡◌, ℕ, ◌<◌}
use Rattle.verdict.specs.Verdict.{done}
use Rattle.decide.specs.Corners.{first_of, corner}
use Rattle.decide.specs.Verdicts.{reached_of}
use Rattle.decide.proofs.verdicts.positions.Given as goal

abbrev pub invariant-loop-i : goal.invariant-loop-i
invariant-loop-i l = (k : ℕ) → k < l.i → reached_of (corner l.v-items k) (first_of l.layout.has_normal l.layout.textured k) ≡ done

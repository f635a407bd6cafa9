-- The words of each vertex so far are finite. Assumes nothing.
use Rattle.std.proofs.Common.{◌≡◌, ℕ, ◌<◌}
use Rattle.verdict.specs.Verdict.{done}
use Rattle.payload.specs.Words.{finite_from}
use Rattle.decide.specs.Corners.{first_of, color_at}
use Rattle.decide.proofs.verdicts.inputs.Given as goal

abbrev pub invariant-loop-i : goal.invariant-loop-i
invariant-loop-i l = let a = l.layout in
    (k : ℕ) → k < l.i → finite_from l.p (first_of a.has_normal a.textured k) (color_at a.has_normal a.textured) ≡ done

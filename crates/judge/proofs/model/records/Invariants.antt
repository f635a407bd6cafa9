-- Record after record; while none is refused, those that are left decide. Assumes nothing.
use Rattle.std.proofs.Common.{◌≡◌, ◌-◌, ◌*◌, ◌/◌, length, drop}
use Rattle.decide.specs.Verdicts.{records_verdict}
use Rattle.judge.specs.Judge.{held_in}
use Rattle.judge.proofs.model.records.Given as goal

abbrev pub invariant-loop-k : goal.invariant-loop-k
invariant-loop-k l = let n = length l.words / 28 in
    records_verdict l.mode (held_in l.slots) l.m (n - l.k) (drop (28 * l.k) l.words) ≡ records_verdict l.mode (held_in l.slots) l.m n l.words

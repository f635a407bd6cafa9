-- `cases::run`: a line gives fewer than 64 words, the most that there is room for. Assumes nothing.
use Rattle.std.proofs.Common.{◌<◌}
use Rattle.cases.proofs.run.Given as goal

abbrev pub invariant-loop-text : goal.invariant-loop-text
invariant-loop-text l =
    (goal.iterator-loop-text).can_next l.text-iterator ×
    (goal.iterator-loop-text).is_finite l.text-iterator ×
    (l.words.1 < 64)

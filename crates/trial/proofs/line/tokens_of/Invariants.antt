-- `trial::line::tokens_of`: the place of the next token is one of the 64. Assumes nothing.
use Rattle.std.proofs.Common.{◌<◌}
use Rattle.trial.proofs.line.tokens_of.Given as goal

abbrev pub invariant-loop-piece : goal.invariant-loop-piece
invariant-loop-piece l =
    (goal.iterator-loop-piece).can_next l.piece-iterator ×
    (goal.iterator-loop-piece).is_finite l.piece-iterator ×
    (l.count < 64)

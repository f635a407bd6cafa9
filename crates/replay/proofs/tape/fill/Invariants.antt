-- `replay::tape::fill`: a piece has no more words than the buffer has room for. Assumes nothing.
use Rattle.std.proofs.Common.{◌≡◌}
use Rattle.std.specs.Slice.Iter.{chunks_mut_size}
use Rattle.replay.proofs.tape.fill.Given as goal

abbrev pub invariant-loop-piece : goal.invariant-loop-piece
invariant-loop-piece g l =
    (goal.iterator-loop-piece g).can_next l.piece-iterator ×
    (goal.iterator-loop-piece g).is_finite l.piece-iterator ×
    (chunks_mut_size l.piece-iterator ≡ 1024)

-- The number of the matrix is one of three, since it passed its check. Assumes nothing.
use mathlib.Core.Path.{sym, ◌∙◌}
use Rattle.settings.proofs.Changes.{matrix_number}
use Rattle.settings.proofs.set_matrix.Goals as goal

pub with_matrix-requires : goal.with_matrix-requires
with_matrix-requires c = matrix_number _ (sym c.matrix_verdict.ensures ∙ c.in_ok-matrix_verdict.was)

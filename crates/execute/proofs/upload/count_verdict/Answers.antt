-- Each way out is what the definition says there. Assumes nothing.
use mathlib.Core.Path.{sym, ◌∙◌}
use native.Mathlib.Omega.{arith}
use Rattle.execute.proofs.Laws.{because-is, count_short, count_zero, count_done, count_wrong}
use Rattle.execute.proofs.upload.count_verdict.Goals as goal

pub returns-then-p-lt2 : goal.returns-then-p-lt2
returns-then-p-lt2 c = because-is c.wrong_length.ensures ∙ sym (count_short _ (omega arith))

pub returns-then-count-eq0 : goal.returns-then-count-eq0
returns-then-count-eq0 c = because-is c.out_of_range.ensures ∙ sym (count_zero _ (omega arith) c.if-count-eq0.true)

pub returns-then-p-area : goal.returns-then-p-area
returns-then-p-area c = because-is c.wrong_length-then-p-area.ensures ∙ sym (count_wrong _ (omega arith) (omega arith) (λ e. omega (arith, c.area.ensures)))

pub returns : goal.returns
returns c = sym (count_done _ (omega arith) (omega arith) (omega (arith, c.area.ensures)))

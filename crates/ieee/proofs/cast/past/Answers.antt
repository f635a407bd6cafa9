-- `ieee::cast::past` meets its contract. Assumes nothing.
use Rattle.std.proofs.Common.{ℕ, ◌+◌, ap, ◌∙◌, arith}
use Rattle.ieee.proofs.Cuts.{cut_up_le}
use Rattle.ieee.proofs.Boxes.{past-under, past-over}
use Rattle.ieee.proofs.cast.past.Goals as goal

pub overflow_add-result : goal.overflow_add-result
overflow_add-result c = omega (arith, c.cut_up.ensures, cut_up_le c.args.x 2147483647)

pub returns-then-x : goal.returns-then-x
returns-then-x c = past-under c.args.x c.if-x.true

pub returns-else-x : goal.returns-else-x
returns-else-x c = ap (λ (n : ℕ). n + 1) c.cut_up.ensures ∙ past-over c.args.x c.if-x.false

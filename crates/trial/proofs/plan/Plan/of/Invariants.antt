-- `trial::plan::Plan::of`: an r among the operations has been taken, or is still to come. Assumes nothing.
use Rattle.std.proofs.Common.{◌≡◌, ◌==◌, ◌||◌, drop}
use Rattle.std.specs.List.{list_any}
use Rattle.trial.specs.declared.line.Op.{Op}
use Rattle.trial.proofs.plan.Plan.of.Given as goal

abbrev pub invariant-loop-op : goal.invariant-loop-op
invariant-loop-op l = (l.asked.reset || list_any (λ (op : Op). op.letter == 114) (drop l.op-index l.ops)) ≡ list_any (λ (op : Op). op.letter == 114) l.ops

-- `cases::ask::write`: each turn takes some of what is left of the text. Assumes nothing.
use Rattle.std.proofs.Common.{length}
use Rattle.cases.proofs.ask.write.Given as goal

abbrev pub decreases-loop-left : goal.decreases-loop-left
decreases-loop-left l = length l.left

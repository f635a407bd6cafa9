-- `ieee::range::max0` meets its contract: each arm answers what `cond` picks there. Assumes nothing.
use Rattle.ieee.proofs.range.max0.Goals as goal

pub returns-then-x : goal.returns-then-x
returns-then-x c = simp c.if-x.true

pub returns-else-x : goal.returns-else-x
returns-else-x c = simp c.if-x.false

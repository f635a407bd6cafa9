-- `ieee::digits::root_bits` meets its contract: its two ways are the two kinds of number that a pattern stands for. Assumes nothing.
use Rattle.std.proofs.Common.{ap, ◌∙◌, arith}
use Rattle.ieee.specs.Root.{root_wholes}
use Rattle.ieee.proofs.Shape.{units_small, units_large}
use Rattle.ieee.proofs.digits.root_bits.Goals as goal

pub returns-then-field-eq0 : goal.returns-then-field-eq0
returns-then-field-eq0 c = (c.root_of.ensures.0, c.root_of.ensures.1 ∙ ap root_wholes (units_small c.args.b c.if-field-eq0.true))

pub returns-else-field-eq0 : goal.returns-else-field-eq0
returns-else-field-eq0 c = (c.root_of-else-field-eq0.ensures.0, c.root_of-else-field-eq0.ensures.1 ∙ ap root_wholes (units_large c.args.b (omega arith) c.requires.1))

-- `ieee::cast::first` meets its contract. Assumes nothing.
use Rattle.std.proofs.Common.{◌∙◌}
use Rattle.ieee.proofs.Boxes.{first-is}
use Rattle.ieee.proofs.cast.first.Goals as goal

pub returns : goal.returns
returns c = c.cut.ensures ∙ first-is c.args.x

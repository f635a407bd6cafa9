-- What was read is the machine's answer, and it is handed out as it is. Assumes nothing.
use mathlib.Core.Path.{◌∙◌}
use Rattle.vpu_c.proofs.vpu_pixel.Goals as goal

pub returns : goal.returns
returns c = c.from.ensures ∙ c.pixel.ensures

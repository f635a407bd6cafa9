-- The clamp of the definition is idle. Assumes nothing.
use Rattle.std.proofs.Common.{sym, ◌∙◌}
use Rattle.ieee.proofs.Unit.{unit_clamped}
use Rattle.raster.specs.Ink.{byte_of}
use Rattle.raster.proofs.ink.byte_of.Goals as goal

pub returns : goal.returns
unfolding byte_of
returns c = c.unit_byte.ensures ∙ sym (unit_clamped _)

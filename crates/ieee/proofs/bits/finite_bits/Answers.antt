-- `ieee::bits::finite_bits` meets its contract, by what the two calls ensure. Assumes nothing.
use Rattle.std.proofs.Common.{ap, ◌∙◌}
use lib.Ieee.Scale.{finite}
use Rattle.ieee.proofs.bits.finite_bits.Goals as goal

pub returns : goal.returns
returns c = c.is_finite.ensures ∙ ap finite c.float_of.ensures

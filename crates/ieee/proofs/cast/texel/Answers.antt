-- `ieee::cast::texel` meets its contract. Assumes nothing.
use Rattle.std.proofs.Common.{◌-◌, ap, ◌∙◌}
use lib.Ieee.{Float, binary32, mul}
use Rattle.ieee.specs.Casts.{cut_of}
use Rattle.ieee.proofs.cast.texel.Goals as goal

pub returns : goal.returns
returns c = c.cut.ensures ∙ ap (λ (y : Float). cut_of (mul binary32 c.args.u y) (c.args.side - 1)) c.nearest_u32_to_f32.ensures

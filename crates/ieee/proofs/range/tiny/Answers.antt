-- `ieee::range::tiny` meets its contract, by what `abs` ensures. Assumes nothing.
use Rattle.std.proofs.Common.{ap}
use lib.Ieee.{Float, binary32, of_bits, le}
use Rattle.ieee.proofs.range.tiny.Goals as goal

pub returns : goal.returns
returns c = ap (λ (y : Float). le y (of_bits binary32 0x3400_0000)) c.abs.ensures

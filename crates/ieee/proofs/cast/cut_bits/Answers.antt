-- `ieee::cast::cut_bits` meets its contract (`Bytes.antt`). Assumes nothing.
use Rattle.std.proofs.Common.{arith}
use Rattle.ieee.proofs.Bytes.{whole_bits}
use Rattle.ieee.proofs.cast.cut_bits.Goals as goal

pub returns : goal.returns
returns c = omega (arith, whole_bits c.args.b c.args.last c.requires.0 c.requires.1)

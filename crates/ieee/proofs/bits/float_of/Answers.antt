-- `ieee::bits::float_of` meets its contract: the test is that for a NaN's pattern (`nan_bits_above`). Assumes nothing.
use Rattle.std.proofs.Common.{◌≡◌, false, ◌%◌, ◌∙◌, arith, le-ltb}
use lib.Ieee.{binary32, nan_bits}
use lib.Ieee.Bits.{nan_bits_above}
use Rattle.ieee.proofs.bits.float_of.Goals as goal

pub float_from_bits-result : goal.float_from_bits-result
float_from_bits-result c = let b = c.args.bits in
    let e : nan_bits binary32 b ≡ false = nan_bits_above binary32 b ∙ le-ltb 2139095040 (b % 2147483648) (omega arith) in
    rw e tt

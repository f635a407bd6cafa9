-- `ieee::cast::byte` meets its contract (`Laid.antt`). Assumes nothing.
use Rattle.std.proofs.Common.{not, ◌∙◌}
use lib.Ieee.{binary64, fits, is_nan}
use lib.Ieee.Fits.{and_i, fits_widens}
use Rattle.ieee.proofs.Laid.{laid}
use Rattle.ieee.proofs.cast.byte.Goals as goal

pub float_to_float-b : goal.float_to_float-b
float_to_float-b c = let r = c.near_byte in
    let x = r.result in
    and_i (fits binary64 x) (not (is_nan x)) (fits_widens x c.row_known-1.given) (laid x c.row_known-1.given r.ensures.0 r.ensures.1).0

pub float_to_bits-b : goal.float_to_bits-b
float_to_bits-b c = let r = c.near_byte in
    (laid r.result c.row_known-1.given r.ensures.0 r.ensures.1).1.sum_number

pub returns : goal.returns
returns c = let r = c.near_byte in
    (laid r.result c.row_known-1.given r.ensures.0 r.ensures.1).1.cut_is ∙ r.ensures.2

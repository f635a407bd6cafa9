-- `ieee::cast::cut_cast` meets its contract: it is Rust's cast to a u64, brought to last (`Units.antt`). Assumes nothing.
use Rattle.std.proofs.Common.{T, sym, subst, arith}
use lib.Ieee.{of_bits, neg}
use Rattle.ieee.proofs.Cuts.{cut_is, cut_under, cut_over}
use Rattle.ieee.proofs.cast.cut_cast.Goals as goal

pub truncating_f32_to_u64-n-requires : goal.truncating_f32_to_u64-n-requires
unfolding of_bits neg
truncating_f32_to_u64-n-requires c = record { lower_bound = subst T (sym c.if-x.true) tt; upper_bound = subst T (sym c.if-x-2.true) tt }

pub returns-then-x-2 : goal.returns-then-x-2
returns-then-x-2 c = omega (arith, c.min.ensures, c.truncating_f32_to_u64-n.ensures, cut_is c.args.x c.args.last c.ranges.last.fits)

pub returns-then-x : goal.returns-then-x
returns-then-x c = cut_over c.args.x c.args.last c.ranges.last.fits c.if-x.true c.if-x-2.false

pub returns : goal.returns
returns c = cut_under c.args.x c.args.last c.if-x.false

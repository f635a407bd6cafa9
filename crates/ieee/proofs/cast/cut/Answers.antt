-- `ieee::cast::cut` meets its contract: each way out by the range of its patterns (`Bytes.antt`). Assumes nothing.
use Rattle.std.proofs.Common.{◌≡◌, T, sym, ap, ◌∙◌, subst}
use lib.Ieee.{Float, binary32, to_bits, of_bits}
use lib.Ieee.Bits.{of_bits-to_bits}
use Rattle.ieee.specs.Units.{zero32}
use Rattle.ieee.specs.Casts.{cut_of}
use Rattle.ieee.proofs.Bytes.{under_one, not_above}
use Rattle.ieee.proofs.Compare.{number}
use Rattle.ieee.proofs.cast.cut.Goals as goal
use Rattle.ieee.proofs.cast.cut.Goals.{Start}

-- the value is its pattern's
same : (c : Start) → cut_of (of_bits binary32 (to_bits binary32 c.args.x)) c.args.last ≡ cut_of c.args.x c.args.last
same c = ap (λ (x : Float). cut_of x c.args.last) (of_bits-to_bits binary32 c.args.x (subst T (sym c.well_formed.0.1) tt))

pub float_to_bits-b : goal.float_to_bits-b
float_to_bits-b c = number zero32 c.args.x c.if-x.true

pub returns-then-b-lt1065353216 : goal.returns-then-b-lt1065353216
returns-then-b-lt1065353216 c = under_one (to_bits binary32 c.args.x) c.args.last c.if-b-lt1065353216.true ∙ same c.before.before

pub returns-then-b-lt1266679808 : goal.returns-then-b-lt1266679808
returns-then-b-lt1266679808 c = c.cut_bits.ensures ∙ same c.before.before.before.before

pub returns-then-x : goal.returns-then-x
returns-then-x c = c.cut_cast.ensures

pub returns : goal.returns
returns c = not_above c.args.x c.args.last c.if-x.false

-- The greatest of the corners' ends, cut at the screen's. Assumes nothing.
use native.Mathlib.Omega.{arith}
use Rattle.ieee.proofs.Ends.{past_three}
use Rattle.face.specs.Face.{past_of}
use Rattle.face.proofs.past.Goals as goal

pub returns : goal.returns
unfolding past_of
returns c = let e = past_three c.args.a c.args.b c.args.c c.args.last in
    let cut = c.min.ensures in
    let greatest = c.max-greatest.ensures in
    (omega (arith, cut, greatest, c.max.ensures, c.past.ensures, c.past-2.ensures, c.past-3.ensures, e), omega (arith, cut))

-- The least of the corners' first pixels is the box's. Assumes nothing.
use native.Mathlib.Omega.{arith}
use Rattle.ieee.proofs.Ends.{first_three}
use Rattle.face.specs.Face.{min_of}
use Rattle.face.proofs.first.Goals as goal

pub returns : goal.returns
unfolding min_of
returns c = omega (arith, c.min.ensures, c.min-least.ensures, c.first.ensures, c.first-2.ensures, c.first-3.ensures, first_three c.args.a c.args.b c.args.c)

-- What is before the least of three numbers is before each. Assumes nothing.
use Rattle.std.proofs.Common.{arith, pos}
use Rattle.std.proofs.lemmas.Int.{ints, clamps}
use Rattle.flat.proofs.Cut.{less}
use Rattle.flat.proofs.bounds.first.Goals as goal

pub returns : goal.returns
returns c = (
  omega (arith, ints, clamps),
  λ x l.
      record { first = less (pos x) c.args.a (omega (arith, ints, clamps)); second = less (pos x) c.args.b (omega (arith, ints, clamps)); third = less (pos x) c.args.c (omega (arith, ints, clamps)) },
)

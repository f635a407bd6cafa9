-- What is beyond the greatest of three numbers is beyond each. Assumes nothing.
use Rattle.std.proofs.Common.{arith, pos}
use Rattle.std.proofs.lemmas.Int.{ints, clamps}
use Rattle.flat.proofs.Cut.{less}
use Rattle.flat.proofs.bounds.after.Goals as goal

pub returns : goal.returns
returns c = (
  omega (arith, ints, clamps),
  λ x l h.
      record { first = less c.args.a (pos x) (omega (arith, ints, clamps)); second = less c.args.b (pos x) (omega (arith, ints, clamps)); third = less c.args.c (pos x) (omega (arith, ints, clamps)) },
)

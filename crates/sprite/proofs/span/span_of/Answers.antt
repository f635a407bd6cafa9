-- Each end is cut to the screen. Assumes nothing.
use Rattle.std.proofs.Common.{arith}
use Rattle.std.proofs.lemmas.Int.{ints, clamps}
use Rattle.sprite.proofs.Spans.{cut-to}
use Rattle.sprite.proofs.span.span_of.Goals as goal

pub returns : goal.returns
returns c = cut-to c.args.at c.args.size c.args.n _ (omega (arith, ints, clamps)) (omega (arith, ints, clamps)) (omega (arith, ints, clamps))

use Rattle.std.proofs.Common.{arith, length-set}
use lib.Ieee.{nan}
use Rattle.std.proofs.lemmas.List.Edits.{fill_by_more}
use Rattle.std.proofs.lemmas.List.FromFn.{fill_by_all}
use Rattle.vector.specs.Three.{at}
use Rattle.clip.specs.Vertices.{mix_of}
use Rattle.clip.proofs.vertex.mix.Goals as goal

pub loop-i-preserved : goal.loop-i-preserved
loop-i-preserved g c = (
  simp length-set c.loop-i.invariant.0,
  fill_by_more (λ k. mix_of c.args.t (at c.args.p k) (at c.args.c k)) c.loop-i.mixed c.loop-i.i nan (omega arith) c.loop-i.invariant.1,
)

pub returns : goal.returns
returns g c = fill_by_all (λ k. mix_of c.args.t (at c.args.p k) (at c.args.c k)) c.loop-i.mixed g.row.N nan c.loop-i.invariant.0 (λ k h. c.loop-i.invariant.1 k (omega arith))

use Rattle.std.proofs.Common.{◌≡◌, ◌-◌, sym, refl, ap, not, ◌∙◌, arith}
use Rattle.clip.specs.Polygons.{next_cut}
use Rattle.clip.specs.Vertices.{full}
use Rattle.clip.proofs.Whole.{out_here, in_here}
use Rattle.clip.proofs.polygon.first_out.Goals as goal

pub loop-p-init : goal.loop-p-init
loop-p-init c = (c.requires, refl)

pub returns-then-not-inside : goal.returns-then-not-inside
returns-then-not-inside c = sym (out_here full _ _ c.args.stop c.clip_distance-inside.ensures c.loop-p-test.true (ap not c.if-not-inside.true)) ∙ c.loop-p.invariant.1

pub loop-p-preserved : goal.loop-p-preserved
loop-p-preserved c = (omega arith, sym (in_here full _ _ c.args.stop c.clip_distance-inside.ensures c.loop-p-test.true (ap not c.if-not-inside.false)) ∙ c.loop-p.invariant.1)

pub returns : goal.returns
unfolding next_cut
returns c = let stop = c.args.stop in
    let p = c.loop-p.p in
    let n : stop - p ≡ 0 = omega arith in
    let e : p ≡ stop = omega arith in
    sym e ∙ (rw n at c.loop-p.invariant.1)

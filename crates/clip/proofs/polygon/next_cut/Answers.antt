use Rattle.std.proofs.Common.{◌≡◌, suc, ◌+◌, ◌-◌, ◌<◌, ◌≤◌, [], ◌∷◌, length, get_or, drop, sym, refl, ◌∙◌, add-one, arith, drop_of_length-le, drop-cons}
use Rattle.clip.specs.Vertices.{full, of, no_vertex}
use Rattle.clip.proofs.Whole.{next_bounds, next_more, next_none}
use Rattle.clip.proofs.polygon.next_cut.Goals as goal

pub loop-vertex-init : goal.loop-vertex-init
loop-vertex-init c = ((omega arith, omega arith), refl)

pub loop-vertex-preserved : goal.loop-vertex-preserved
loop-vertex-preserved c =
    let i = c.loop-vertex.vertex-index in
    let stop = c.loop-vertex.stop in
    let plane = c.args.plane in
    let vs = of c.args.polygon in
    let v = get_or vs i no_vertex in
    let w = c.loop-vertex.invariant in
    let e = c.first_out-stop.ensures in
    let b = next_bounds full (stop - plane) plane (v ∷ []) in
    let k : i < length vs = omega (arith, c.loop-vertex-test.true) in
    let here = drop-cons vs i no_vertex k in
    let more = next_more full (stop - plane) plane v (drop (suc i) vs) in
    ((omega arith, omega arith), rw (e, add-one) (sym more ∙ (rw here at w.1)))

pub returns : goal.returns
returns c = let w = c.loop-vertex.invariant in
    let vs = of c.args.polygon in
    let past : length vs ≤ c.loop-vertex.vertex-index = omega (arith, c.loop-vertex-test.false) in
    let e : c.loop-vertex.stop ≡ c.args.plane + (c.loop-vertex.stop - c.args.plane) = omega arith in
    e ∙ sym (next_none full _ _) ∙ (rw (drop_of_length-le vs past) at w.1)

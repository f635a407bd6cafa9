-- `clip::polygon::first_cut` meets its contract: each corner is looked at up to where the one before it stopped (`next_more`, proofs/Whole.antt). Assumes nothing.
use Rattle.std.proofs.Common.{◌≡◌, ◌-◌, [], ◌∷◌, length, get_or, ap, ◌∙◌, rules}
use Rattle.clip.specs.Polygons.{next_cut}
use Rattle.clip.specs.Vertices.{full, no_vertex}
use Rattle.clip.proofs.Whole.{next_more}
use Rattle.clip.proofs.Planes.{three}
use Rattle.clip.proofs.polygon.first_cut.Goals as goal

pub returns : goal.returns
returns c = let t = c.args.triangle in
    let long : length t ≡ 3 = search rules in
    let u = get_or t 0 no_vertex in
    let v = get_or t 1 no_vertex in
    let w = get_or t 2 no_vertex in
    let first = next_more full 6 0 u (v ∷ w ∷ []) in
    let second = next_more full (c.first_out.result - 0) 0 v (w ∷ []) in
    let found : c.first_out-3.result ≡ next_cut full 6 0 (u ∷ v ∷ w ∷ []) = cc in
    found ∙ ap (next_cut full 6 0) (three t long)

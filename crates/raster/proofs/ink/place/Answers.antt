-- Column and row are inside the sides, so the place is inside their product. Assumes nothing.
use Rattle.std.proofs.Common.{◌-◌, ◌≤◌, pos, arith}
use lib.Ieee.{binary32, of_int}
use Rattle.ieee.proofs.Cuts.{cut_le}
use Rattle.vector.specs.Three.{◌·◌}
use Rattle.raster.specs.Ink.{place_of}
use Rattle.texel.proofs.Grid.{grid}
use Rattle.raster.proofs.ink.place.Goals as goal

pub returns : goal.returns
unfolding place_of
returns c = let h = c.requires in
    let g = c.args.s in
    let y : c.texel.result ≤ g.height - 1 = omega (arith, c.texel.ensures, cut_le (c.mix-v.result · of_int binary32 (pos g.height)) (g.height - 1)) in
    let x : c.texel-2.result ≤ g.width - 1 = omega (arith, c.texel-2.ensures, cut_le (c.mix-u.result · of_int binary32 (pos g.width)) (g.width - 1)) in
    (rw (c.texel.ensures, c.texel-2.ensures, c.mix-v.ensures, c.mix-u.ensures), grid g.width g.height c.texel-2.result c.texel.result h.some_width h.some_height x y)

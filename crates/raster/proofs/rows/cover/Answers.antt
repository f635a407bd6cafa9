-- If the depth passes, both buffers change at the pixel, else neither does. Assumes nothing.
use Rattle.std.proofs.Common.{◌≡◌, ◌+◌, ◌*◌, get_or, sym, refl, ap, ◌∙◌, arith}
use lib.Ieee.{nan}
use Rattle.vector.specs.Three.{◌⊘◌}
use Rattle.screen.specs.Plane.{width}
use Rattle.face.specs.declared.Corners.{Corners}
use Rattle.face.specs.Pixel.{bary_of, depth_at}
use Rattle.raster.specs.Ink.{shade_of}
use Rattle.face.proofs.Lines.{bary_is, depth_is}
use Rattle.raster.proofs.Cell.{shows_by, drawn-new, drawn_same}
use Rattle.raster.proofs.rows.cover.Goals as goal
use Rattle.raster.proofs.rows.cover.Goals.{After-mix-z, Start}

is_bary : (s : Start) → record { c0 = s.args.w0 ⊘ s.args.f.area; c1 = s.args.w1 ⊘ s.args.f.area; c2 = s.args.w2 ⊘ s.args.f.area } ≡ bary_of s.args.f s.args.x s.args.y
is_bary s =
    let w = s.requires.w0_value in
    bary_is s.args.f s.args.x s.args.y w.0 w.1 w.2

is-depth : (m : After-mix-z) → depth_at m.args.f m.args.x m.args.y ≡ m.mix-z.result
is-depth m =
    depth_is m.args.f m.args.x m.args.y (is_bary m.before.before.before.before.before.before.before) m.mix-z.ensures

pub returns-then-passes : goal.returns-then-passes
returns-then-passes c = let i = c.requires.inside in
    let k = c.args.y * width + c.args.x in
    let n = sym c.passes.ensures ∙ c.if-passes.true in
    drawn-new c.args.texels.now c.args.ink c.args.f c.args.x c.args.y k c.args.depth.now c.args.plane.now i.in_x refl _ c.shade_at.result _
    (shows_by c.args.f c.args.x c.args.y (get_or c.args.depth.now k nan) i.in_box c.requires.y_value (is-depth (goal.at.returns-then-passes c).After-mix-z) n) (is-depth (goal.at.returns-then-passes c).After-mix-z)
    (sym (c.shade_at.ensures ∙ ap (λ (g : Corners). shade_of c.args.texels.now c.args.ink g c.args.f.inv_w) (is_bary (goal.at.returns-then-passes c).Start)))
    (omega (arith, i.in_x, i.in_y)) c.put.ensures

pub returns-else-passes : goal.returns-else-passes
returns-else-passes c = let i = c.requires.inside in
    let k = c.args.y * width + c.args.x in
    let n = sym c.passes.ensures ∙ c.if-passes.false in
    drawn_same c.args.texels.now c.args.ink c.args.f c.args.x c.args.y k c.args.depth.now c.args.plane.now i.in_x refl
    (shows_by c.args.f c.args.x c.args.y (get_or c.args.depth.now k nan) i.in_box c.requires.y_value (is-depth (goal.at.returns-else-passes c).After-mix-z) n)

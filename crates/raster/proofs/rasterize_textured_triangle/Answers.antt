-- The set-up, the ink and the draw. Assumes nothing.
use Rattle.std.proofs.Common.{◌∙◌}
use Rattle.raster.specs.Triangles.{textured_depths, textured_plane}
use Rattle.raster.proofs.Inks.{stored_textured}
use Rattle.raster.proofs.rasterize_textured_triangle.Goals as goal

pub draw-requires : goal.draw-requires
draw-requires c = record { stored = rw c.textured_ink-ink.ensures (stored_textured c.args.tri c.args.width c.args.height c.args.mode c.args.flat_color _ c.requires.texture); on_screen = c.set_up-setup.ensures.1 }

pub returns : goal.returns
unfolding textured_depths textured_plane
returns c = let e = c.set_up-setup.ensures.0 in
    record { depth_f32_after = c.draw.ensures.depth_after ∙ rw e; plane_after = c.draw.ensures.plane_after ∙ rw (c.textured_ink-ink.ensures, e) }

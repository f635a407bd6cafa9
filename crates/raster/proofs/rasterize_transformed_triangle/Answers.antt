-- The set-up, the ink and the draw, with no texture. Assumes nothing.
use Rattle.std.proofs.Common.{◌∙◌}
use Rattle.raster.specs.Triangles.{transformed_depths, transformed_plane}
use Rattle.raster.proofs.Inks.{stored_transformed}
use Rattle.raster.proofs.rasterize_transformed_triangle.Goals as goal

pub draw-requires : goal.draw-requires
draw-requires c = record { stored = rw c.transformed_ink-ink.ensures (stored_transformed c.args.tri c.args.flat _); on_screen = c.set_up-setup.ensures.1 }

pub returns : goal.returns
unfolding transformed_depths transformed_plane
returns c = let e = c.set_up-setup.ensures.0 in
    record { depth_f32_after = c.draw.ensures.depth_after ∙ rw e; plane_after = c.draw.ensures.plane_after ∙ rw (c.transformed_ink-ink.ensures, e) }

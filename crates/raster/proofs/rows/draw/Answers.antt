-- A triangle that is set up is drawn on the whole screen; another leaves both buffers. Assumes nothing.
use Rattle.std.proofs.Common.{refl, rules}
use Rattle.screen.proofs.Draw.{drawn-all}
use Rattle.raster.specs.Raster.{depths_after, plane_after}
use Rattle.raster.proofs.rows.draw.Goals as goal

pub draw_rows-requires : goal.draw_rows-requires
draw_rows-requires c = let on = rw c.in-Some.is at c.requires.on_screen in
    record { of_right = on.0; of_bottom = on.1; stored = c.requires.stored }

pub returns-in-Some : goal.returns-in-Some
unfolding depths_after plane_after
returns-in-Some c =
    let all = drawn-all c.draw_rows.ensures (search rules) (search rules) in
    record { depth_after = rw c.in-Some.is all.0; plane_after = rw c.in-Some.is all.1 }

pub returns-in_default : goal.returns-in_default
unfolding depths_after plane_after
returns-in_default c = record { depth_after = rw c.in_default.is refl; plane_after = rw c.in_default.is refl }

-- A shade that is nothing leaves the pixel as it was. Assumes nothing.
use Rattle.std.proofs.Common.{◌∙◌}
use Rattle.laws.proofs.Cells.{range_skip, range_swap}
use Rattle.raster.specs.Raster.{inked}
use Rattle.raster.proofs.rows.put.Goals as goal

pub returns-in_default : goal.returns-in_default
unfolding inked
returns-in_default c = range_skip 0 _ _ _ _ (λ j p q. rw c.in_default.is)

pub returns-in-Some : goal.returns-in-Some
unfolding inked
returns-in-Some c = c.write_pixel.ensures ∙ range_swap 0 _ _ _ _ _ (λ j p q. rw c.in-Some.is)

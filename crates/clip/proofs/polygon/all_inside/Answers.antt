-- `clip::polygon::all_inside` meets its contract. Assumes nothing.
use Rattle.clip.specs.Polygons.{all_inside}
use Rattle.clip.proofs.polygon.all_inside.Goals as goal

pub returns : goal.returns
unfolding all_inside
returns c = rw c.first_cut.ensures

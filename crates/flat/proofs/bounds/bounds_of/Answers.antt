-- A pixel before or beyond all three corners is not covered (`Side`). Assumes nothing.
use mir.ValLaws.{to_z-of_z}
use Rattle.flat.proofs.Fits.{fields}
use Rattle.flat.proofs.Side.{left_of, right_of, above_it, below_it}
use Rattle.flat.proofs.bounds.bounds_of.Goals as goal

pub returns : goal.returns
returns c = let (x0, y0, x1, y1, x2, y2) = fields c.requires in
    let t = c.args.t in
    record {
      on_left = c.first.ensures.0;
      on_right = c.after.ensures.0;
      on_top = c.first-2.ensures.0;
      on_bottom = c.after-2.ensures.0;
      before_left = λ x y l. left_of t x y (simp to_z-of_z at (c.first.ensures.1 x l));
      from_right = λ x y l h. right_of t x y (simp to_z-of_z at (c.after.ensures.1 x l h));
      above_top = λ x y l. above_it t x y (simp to_z-of_z at (c.first-2.ensures.1 y l));
      from_bottom = λ x y l h. below_it t x y (simp to_z-of_z at (c.after-2.ensures.1 y l h));
    }

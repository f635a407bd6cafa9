-- The picture, and what changes it. A paint is complete: nothing of the machine's state is read while it is painted. Definitions only.
use Rattle.std.specs.Prelude.{ℕ, List, [], ◌∷◌, length, ℤ, Float}
use Rattle.laws.specs.Cells.{map_at}
use Rattle.screen.specs.Plane.{paint}
use Rattle.screen.specs.Depths.{far_ints, far_floats}
use Rattle.screen.specs.declared.plane.Rgba.{Rgba}
use Rattle.flat.specs.declared.tri.Tri.{Tri}
use Rattle.flat.specs.Tri.{tri_depths, tri_plane}
use Rattle.sprite.specs.declared.words.Sprite.{Sprite}
use Rattle.sprite.specs.Sprite.{sprite_plane}
use Rattle.stroke.specs.Strokes.{Sheet, sheet, Stroke, stroke_on}

-- the plane, the integer depths and the float depths
pub record Picture : Type 0 where
  pub plane : List ℕ
  pub depth : List ℤ
  pub depth_f : List Float

abbrev pub picture : List ℕ → List ℤ → List Float → Picture
picture P D F = record { plane = P; depth = D; depth_f = F }

pub data Paint : Type 0 where
  -- rule 3.6, flag 1
  fill : Rgba → Paint
  -- rule 3.6, flag 2
  far : Paint
  -- rule 11.6: a sprite that is not refused, and its texture's words
  sprite : Sprite → List ℕ → Paint
  -- a flat triangle that is not refused
  flat : Tri → Paint
  -- a float triangle that is not refused
  stroked : Stroke → Paint

-- what a float draw sees of a picture, and a picture after it
abbrev pub seen_of : Picture → Sheet
seen_of p = sheet p.plane p.depth_f

abbrev pub with_seen : Picture → Sheet → Picture
with_seen p s = picture s.plane p.depth s.depths

unfoldable pub paint_on : Paint → Picture → Picture
paint_on (fill c) p = picture (map_at (paint c) p.plane) p.depth p.depth_f
paint_on far p = picture p.plane (far_ints (length p.depth)) (far_floats (length p.depth_f))
paint_on (sprite s texels) p = picture (sprite_plane s texels p.plane) p.depth p.depth_f
paint_on (flat t) p = picture (tri_plane t p.depth p.plane) (tri_depths t p.depth) p.depth_f
paint_on (stroked k) p = with_seen p (stroke_on k (seen_of p))

unfoldable pub paints_on : List Paint → Picture → Picture
paints_on [] p = p
paints_on (a ∷ rest) p = paints_on rest (paint_on a p)

-- What a float triangle does to each depth and to each byte of the plane: the loops of `rasterize_transformed_triangle` and `rasterize_textured_triangle` of the original. Definitions only.
use Rattle.std.specs.Prelude.{ℕ, ◌/◌, ◌%◌, Bool, ◌&&◌, Option, Some, None, List, Float}
use Rattle.std.specs.Float.{nan}
use Rattle.laws.specs.Cells.{map_at}
use Rattle.screen.specs.Plane.{width, paint}
use Rattle.screen.specs.Draw.{depth_step, byte_step}
use Rattle.face.specs.declared.Face.{Face}
use Rattle.raster.specs.declared.ink.Ink.{Ink}
use Rattle.screen.specs.declared.plane.Rgba.{Rgba}
use Rattle.face.specs.Pixel.{within, covers, bary_of, depth_at, passes_of}
use Rattle.raster.specs.Ink.{shade_of}

-- rules 5.9 and 5.10: does it show at (x, y), whose depth is old? In the box, inside the edges, and not behind
unfoldable pub shows_at : Face → ℕ → ℕ → Float → Bool
shows_at f x y old = within f.bounds x y && (covers f x y && passes_of (depth_at f x y) old)

-- the same at the pixel k, and the depth that it then leaves there
unfoldable pub shows : Face → ℕ → Float → Bool
shows f k old = shows_at f (k % width) (k / width) old

unfoldable pub new_depth : Face → ℕ → Float
new_depth f k = depth_at f (k % width) (k / width)

-- `write_pixel`, or its `continue`: byte j of the plane under a shade
unfoldable pub inked : Option Rgba → ℕ → ℕ → ℕ
inked None j old = old
inked (Some c) j old = paint c j old

-- what an ink leaves in byte j
unfoldable pub ink_at : List ℕ → Ink → Face → ℕ → ℕ → ℕ
ink_at texels ink f j old = inked (shade_of texels ink (bary_of f (j / 4 % width) (j / 4 / width)) f.inv_w) j old

-- the depths D and the plane P after a triangle that is set up
unfoldable pub depths_after : Option Face → List Float → List Float
depths_after (Some f) D = map_at (depth_step (shows f) (new_depth f)) D
depths_after None D = D

unfoldable pub plane_after : List ℕ → Ink → Option Face → List Float → List ℕ → List ℕ
plane_after texels ink (Some f) D P = map_at (byte_step nan (shows f) (ink_at texels ink f) D) P
plane_after texels ink None D P = P

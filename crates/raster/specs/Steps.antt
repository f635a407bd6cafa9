-- What the steps of a draw are given, and what they leave. Definitions only.
use Rattle.std.specs.Prelude.{◌≡◌, ℕ, ◌<◌, ◌≤◌, true, List, Float}
use Rattle.std.specs.Float.{nan}
use Rattle.screen.specs.Plane.{width, height}
use Rattle.screen.specs.Draw.{Drawn}
use Rattle.face.specs.declared.Face.{Face}
use Rattle.raster.specs.declared.ink.Ink.{Ink}
use Rattle.face.specs.Pixel.{within}
use Rattle.raster.specs.Ink.{Stored}
use Rattle.raster.specs.Raster.{shows, new_depth, ink_at}

-- the pixels from lo to hi are drawn
abbrev pub FaceDrawn : List ℕ → Ink → Face → ℕ → ℕ → List Float → List ℕ → List Float → List ℕ → Type 0
FaceDrawn texels ink f = Drawn nan (shows f) (new_depth f) (ink_at texels ink f)

-- words of this length, and a box on the screen
pub record Ready (ink : Ink) (f : Face) (texels : ℕ) : Type 0 where
  pub of_right : f.bounds.right ≤ width
  pub of_bottom : f.bounds.bottom ≤ height
  pub stored : Stored ink texels

-- a pixel of the box
pub record Inside (f : Face) (x y : ℕ) : Type 0 where
  pub in_x : x < width
  pub in_y : y < height
  pub in_box : within f.bounds x y ≡ true

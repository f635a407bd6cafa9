-- `inside_of` is `inside` as the original writes it, in either rasteriser, for all floats: NaN, infinities and both zeros among them, as area or as weight. Assumes nothing.
use mathlib.Core.Path.{◌≡◌, refl}
use mathlib.Core.Bool.{Bool, true, false, cond, ◌&&◌, and-true}
use mathlib.Core.List.{[], ◌∷◌}
use lib.Ieee.{Float, lt, le}
use Rattle.ieee.specs.Units.{zero32}
use Rattle.face.specs.Pixel.{inside_of}
use Rattle.face.specs.Source.{inside_textured, inside_transformed}

module _ (area w0 w1 w2 : Float) where
  pub inside_transformed_lem : inside_of area w0 w1 w2 ≡ inside_transformed area (w0 ∷ w1 ∷ w2 ∷ [])
  unfolding inside_of
  inside_transformed_lem = simp and-true

  pub inside_textured_lem : inside_of area w0 w1 w2 ≡ inside_textured area (w0 ∷ w1 ∷ w2 ∷ [])
  unfolding inside_of
  inside_textured_lem = simp and-true (go (lt zero32 area))
    where
      go : (b : Bool) → cond b (le zero32 w0 && (le zero32 w1 && le zero32 w2)) (le w0 zero32 && (le w1 zero32 && le w2 zero32))
          ≡ (cond b (le zero32 w0) (le w0 zero32) && (cond b (le zero32 w1) (le w1 zero32) && cond b (le zero32 w2) (le w2 zero32)))
      go true = refl
      go false = refl

-- What lighting does that a reader may not expect, as docs/DIFFERENCES.md lists it. The commands are
--     14  transformed_lit .. false        18  textured_lit .. false
--     16  transformed_lit .. true         19  textured_lit .. true
-- Assumes nothing.
use Prim.Native.Nat.{ℕ}
use mathlib.Core.Path.{◌≡◌, refl}
use mathlib.Core.Bool.{Bool, true, false}
use mathlib.Core.List.{List}
use Rattle.light.specs.declared.Light.{Light}
use Rattle.clip.specs.declared.vertex.ClipVertex.{ClipVertex}
use Rattle.decide.specs.Corners.{corner}
use Rattle.lit.specs.Lit.{mean_normal, face_normal, one_color, each_lit, shaded_by, own_lit, face_lit, transformed_lit, textured_lit}

module _ (lights : List Light) (tri : List ClipVertex) where
  -- mode 0 ignores lighting
  pub mode_0_unlit : (on normal : Bool) → textured_lit on 0 lights normal tri ≡ tri
  unfolding textured_lit
  mode_0_unlit true normal = refl
  mode_0_unlit false normal = refl

  -- mode 1 of 19 lights by the face's normal, as 18 does
  pub mode_1_by_face : (on : Bool) → textured_lit on 1 lights true tri ≡ textured_lit on 1 lights false tri
  unfolding textured_lit
  mode_1_by_face true = refl
  mode_1_by_face false = refl

  -- mode 2 of 18 lights by the face's normal, of 19 by the vertices' own
  pub mode_2_by_face : textured_lit true 2 lights false tri ≡ each_lit (face_lit lights (face_normal tri)) tri
  unfolding textured_lit
  mode_2_by_face = refl

  pub mode_2_by_own : textured_lit true 2 lights true tri ≡ each_lit (own_lit lights) tri
  unfolding textured_lit
  mode_2_by_own = refl

  -- 16 with shading 0 has one colour, of the mean normal at vertex 0
  pub shading_0_by_mean : transformed_lit true 0 lights true tri ≡ one_color tri (shaded_by lights (corner tri 0) (mean_normal tri))
  unfolding transformed_lit
  shading_0_by_mean = refl

  -- 14 is never lit
  pub plain_unlit : (on : Bool) (shading : ℕ) → transformed_lit on shading lights false tri ≡ tri
  unfolding transformed_lit
  plain_unlit on shading = refl

-- The float draws whole, 14, 16, 18, 19 and 1B: what each paints if it is done. Their verdicts are `decide`'s and `judge`'s; the picture is in `stroke`. Definitions only.
use Rattle.std.specs.Prelude.{ℕ, zero, suc, Bool, true, false, cond, List, [], ◌∷◌, ◌++◌, eqb, drop}
use Rattle.std.proofs.Math.Option.{Option, none, some}
use Rattle.vector.specs.Three.{at}
use Rattle.clip.specs.declared.vertex.ClipVertex.{ClipVertex}
use Rattle.raster.specs.declared.ink.Color.{Color}
use Rattle.stroke.specs.declared.Brush.{Brush}
use Rattle.stroke.specs.declared.Brush.TheVariants.{Flat, Blended, Textured}
use Rattle.stroke.specs.Strokes.{Stroke, stroke}
use Rattle.settings.specs.declared.Settings.{Settings}
use Rattle.store.specs.Uploads.{Whole, is_some}
use Rattle.payload.specs.Words.{when_done, word_at, at_most}
use Rattle.decide.specs.Corners.{corner, corners_of}
use Rattle.decide.specs.Verdicts.{transformed_verdict, checked_verdict, triangle_of}
use Rattle.lit.specs.Lit.{transformed_lit, textured_lit}

-- rule 5.11, `flat_color`: the colour of vertex 0 before clipping
unfoldable pub flat_color : List ClipVertex → Color
flat_color tri =
    let c = (corner tri 0).color in
    record { r = at c 0; g = at c 1; b = at c 2; a = at c 3 }

-- ---- 14 and 16
-- `if self.shading_mode == 0 { Some(flat_color) } else { None }`
unfoldable pub shaded_brush : ℕ → List ClipVertex → Brush
shaded_brush shading tri = cond (eqb shading 0) (Flat (flat_color tri)) Blended

unfoldable pub transformed_corners : Settings → List ℕ → Bool → List ClipVertex
transformed_corners s p normal =
    transformed_lit s.lighting_enabled s.shading_mode s.lights normal (corners_of p normal false s.matrices)

unfoldable pub transformed_strokes : Settings → List ℕ → Bool → List Stroke
transformed_strokes s p normal =
    let tri = transformed_corners s p normal in
    when_done (transformed_verdict p normal s.matrices) (stroke tri (shaded_brush s.shading_mode tri) [] ∷ []) []

-- ---- 18 and 19, with the texture that is held under word 0, if one is
unfoldable pub textured_corners : Settings → List ℕ → Bool → List ClipVertex
textured_corners s p normal =
    textured_lit s.lighting_enabled (word_at p 1) s.lights normal (corners_of p normal true s.matrices)

unfoldable pub textured_brush : ℕ → ℕ → ℕ → List ClipVertex → Brush
textured_brush width height mode tri = Textured (record { width = width; height = height; mode = mode; color = flat_color tri })

-- corners that passed the checks, lit and with a texture
unfoldable pub textured_stroke : Settings → ℕ → Bool → List ClipVertex → Whole → Stroke
textured_stroke s mode normal corners u =
    let tri = textured_lit s.lighting_enabled mode s.lights normal corners in
    stroke tri (textured_brush u.wide u.high mode tri) u.words

-- if the mode is in range: with a texture of these sides, and its words
unfoldable pub held_strokes : Settings → List ℕ → Bool → ℕ → ℕ → List ℕ → List Stroke
held_strokes s p normal width height texels =
    let tri = textured_corners s p normal in
    when_done (checked_verdict p normal s.matrices) (stroke tri (textured_brush width height (word_at p 1) tri) texels ∷ []) []

unfoldable pub textured_strokes : Settings → List ℕ → Bool → Option Whole → List Stroke
textured_strokes s p normal none = []
textured_strokes s p normal (some u) = when_done (at_most p 1 2) (held_strokes s p normal u.wide u.high u.words) []

-- ---- 1B, rule 3.15: a refused record is left out and the next one is still drawn. `textures k`: the texture held under k, if one is
unfoldable pub records_strokes : Settings → ℕ → (ℕ → Option Whole) → ℕ → List ℕ → List Stroke
records_strokes s mode textures zero words = []
records_strokes s mode textures (suc n) words =
    textured_strokes s (triangle_of mode words) true (textures (word_at words 0)) ++ records_strokes s mode textures n (drop 28 words)

unfoldable pub model_strokes : Settings → List ℕ → (ℕ → Option Whole) → Option Whole → List Stroke
model_strokes s p textures none = []
model_strokes s p textures (some u) = when_done (at_most p 1 2) (records_strokes s (word_at p 1) textures u.wide u.words) []

-- is a texture held under k?
abbrev pub has_in : (ℕ → Option Whole) → ℕ → Bool
has_in textures k = is_some (textures k)

-- A float triangle painted: clipped, cut into a fan, each triangle of it rasterised. The end of `draw_transformed_triangle_impl`, `draw_textured_triangle` and `draw_textured_lit_triangle`, the original. A stroke is complete: its corners are transformed, lit and checked, and a texture's words are in hand. Definitions only.
use Rattle.std.specs.Prelude.{ℕ, Some, None, List, [], ◌∷◌, Float}
use Rattle.clip.specs.declared.vertex.ClipVertex.{ClipVertex}
use Rattle.clip.specs.Polygons.{clip_all, fan}
use Rattle.clip.specs.Vertices.{full}
use Rattle.raster.specs.Ink as ink
use Rattle.raster.specs.Triangles.{transformed_depths, transformed_plane, textured_depths, textured_plane}
use Rattle.stroke.specs.declared.Brush.{Brush}
use Rattle.stroke.specs.declared.Brush.TheVariants.{Flat, Blended, Textured}

-- what the float draws read and change: the plane and the float depths
pub record Sheet : Type 0 where
  pub plane : List ℕ
  pub depths : List Float

abbrev pub sheet : List ℕ → List Float → Sheet
sheet P D = record { plane = P; depths = D }

-- one triangle of the fan: `rasterize_transformed_triangle`, or `rasterize_textured_triangle`
unfoldable pub triangle_on : Brush → List ℕ → List ClipVertex → Sheet → Sheet
triangle_on (Flat c) texels tri s = sheet (transformed_plane tri (Some c) s.depths s.plane) (transformed_depths tri s.depths)
triangle_on Blended texels tri s = sheet (transformed_plane tri None s.depths s.plane) (transformed_depths tri s.depths)
triangle_on (Textured t) texels tri s =
    sheet (textured_plane tri t.width t.height texels t.mode t.color s.depths s.plane) (textured_depths tri s.depths)

-- rule 5.7, `for i in 1..polygon.len() - 1`
unfoldable pub fan_on : Brush → List ℕ → List (List ClipVertex) → Sheet → Sheet
fan_on brush texels [] s = s
fan_on brush texels (t ∷ ts) s = fan_on brush texels ts (triangle_on brush texels t s)

pub record Stroke : Type 0 where
  pub corners : List ClipVertex
  pub brush : Brush
  pub texels : List ℕ

abbrev pub stroke : List ClipVertex → Brush → List ℕ → Stroke
stroke tri brush texels = record { corners = tri; brush = brush; texels = texels }

unfoldable pub stroke_on : Stroke → Sheet → Sheet
stroke_on k s = fan_on k.brush k.texels (fan (clip_all full k.corners)) s

unfoldable pub strokes_on : List Stroke → Sheet → Sheet
strokes_on [] s = s
strokes_on (k ∷ ks) s = strokes_on ks (stroke_on k s)

-- a brush's texture, if it has one, fits into n words
abbrev pub Stored : Brush → ℕ → Type 0
Stored (Flat c) n = Unit
Stored Blended n = Unit
Stored (Textured t) n = ink.Texture t.width t.height n

-- The two rasterisers of the original, over a triangle of clipped vertices: its positions, colours and texture coordinates are read, and nothing else of it. Definitions only.
use Rattle.std.specs.Prelude.{ℕ, true, false, cond, Option, Some, None, List, [], ◌==◌, Float}
use Rattle.clip.specs.declared.vertex.ClipVertex.{ClipVertex}
use Rattle.raster.specs.declared.ink.Color.{Color}
use Rattle.raster.specs.declared.ink.Ink.{Ink}
use Rattle.raster.specs.declared.ink.Ink.TheVariants as ink
use Rattle.raster.specs.declared.ink.Tone.{Tone}
use Rattle.raster.specs.declared.ink.Tone.TheVariants as tone
use Rattle.face.specs.Face.{setup_of}
use Rattle.raster.specs.Ink.{rgba_of, colors_of, sampler_of}
use Rattle.raster.specs.Raster.{depths_after, plane_after}

-- `if let Some(flat_color) = flat`: the flat colour, or the corners' divided by w
unfoldable pub transformed_ink : List ClipVertex → Option Color → Ink
transformed_ink tri (Some color) = ink.Flat (rgba_of color)
transformed_ink tri None = ink.Blend (colors_of tri)

-- `if mode == 0`, `if mode == 1`
unfoldable pub tone_of : List ClipVertex → ℕ → Color → Tone
tone_of tri mode color = cond (mode == 0) tone.Plain (cond (mode == 1) (tone.Tinted color) (tone.Mixed (colors_of tri)))

unfoldable pub textured_ink : List ClipVertex → ℕ → ℕ → ℕ → Color → Ink
textured_ink tri width height mode color = ink.Textured (sampler_of tri width height) (tone_of tri mode color)

-- `rasterize_transformed_triangle`: the depths D and the plane P afterwards
unfoldable pub transformed_depths : List ClipVertex → List Float → List Float
transformed_depths tri D = depths_after (setup_of false tri) D

unfoldable pub transformed_plane : List ClipVertex → Option Color → List Float → List ℕ → List ℕ
transformed_plane tri flat D P = plane_after [] (transformed_ink tri flat) (setup_of false tri) D P

-- `rasterize_textured_triangle`
unfoldable pub textured_depths : List ClipVertex → List Float → List Float
textured_depths tri D = depths_after (setup_of true tri) D

unfoldable pub textured_plane : List ClipVertex → ℕ → ℕ → List ℕ → ℕ → Color → List Float → List ℕ → List ℕ
textured_plane tri width height texels mode color D P = plane_after texels (textured_ink tri width height mode color) (setup_of true tri) D P

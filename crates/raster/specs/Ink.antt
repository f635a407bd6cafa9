-- What a float triangle leaves at a pixel that it shows at: a colour, or nothing. The original, from the store of the depth to `write_pixel`. Each operation rounds once, in the source's order. Definitions only.
use Rattle.std.specs.Prelude.{ℕ, ◌+◌, ◌*◌, ◌/◌, ◌≤◌, cond, Option, Some, None, List, Float}
use Rattle.ieee.specs.Range.{clamp_of, tiny_of}
use Rattle.ieee.specs.Number.{unit_of}
use Rattle.ieee.specs.Casts as casts
use Rattle.vector.specs.Three.{◌⊕◌, ◌·◌, ◌⊘◌, at}
use Rattle.clip.specs.declared.vertex.ClipVertex.{ClipVertex}
use Rattle.screen.specs.declared.plane.Rgba.{Rgba}
use Rattle.texel.specs.Texel.{texel_at}
use Rattle.face.specs.declared.Corners.{Corners}
use Rattle.raster.specs.declared.ink.Color.{Color}
use Rattle.raster.specs.declared.ink.Colors.{Colors}
use Rattle.raster.specs.declared.ink.Sampler.{Sampler}
use Rattle.raster.specs.declared.ink.Ink.{Ink}
use Rattle.raster.specs.declared.ink.Ink.TheVariants.{Flat, Blend, Textured}
use Rattle.raster.specs.declared.ink.Tone.{Tone}
use Rattle.raster.specs.declared.ink.Tone.TheVariants.{Plain, Tinted, Mixed}
use Rattle.face.specs.Face.{corner}
use Rattle.face.specs.Pixel.{mix_of}

-- rule 5.15, `(value.clamp(0.0, 1.0) * 255.0 + 0.5) as u8`
unfoldable pub byte_of : Float → ℕ
byte_of v = casts.unit_byte_of (clamp_of v)

-- `rgba`
unfoldable pub rgba_of : Color → Rgba
rgba_of c = record { r = byte_of c.r; g = byte_of c.g; b = byte_of c.b; a = byte_of c.a }

-- `tri[i].color[channel]` and `tri[i].uv[c]`, for the three corners
abbrev pub channel_of : List ClipVertex → ℕ → Corners
channel_of tri k = record { c0 = at (corner tri 0).color k; c1 = at (corner tri 1).color k; c2 = at (corner tri 2).color k }

abbrev pub uv_of : List ClipVertex → ℕ → Corners
uv_of tri k = record { c0 = at (corner tri 0).uv k; c1 = at (corner tri 1).uv k; c2 = at (corner tri 2).uv k }

unfoldable pub colors_of : List ClipVertex → Colors
colors_of tri = record { r = channel_of tri 0; g = channel_of tri 1; b = channel_of tri 2; a = channel_of tri 3 }

unfoldable pub sampler_of : List ClipVertex → ℕ → ℕ → Sampler
sampler_of tri width height = record { width = width; height = height; u = uv_of tri 0; v = uv_of tri 1 }

-- ---- rule 5.11, `rasterize_transformed_triangle`: a colour divided by w. b is `bary`, i is `inv_w`, d the `denominator`
-- `(bary[0] * tri[0].color[channel] * inv_w[0] + ..) / denominator`
unfoldable pub divided_of : Corners → Corners → Float → Corners → Float
divided_of b i d v = (b.c0 · v.c0 · i.c0 ⊕ b.c1 · v.c1 · i.c1 ⊕ b.c2 · v.c2 · i.c2) ⊘ d

-- `std::array::from_fn(|channel| ..)`
unfoldable pub blend_of : Colors → Corners → Corners → Float → Color
blend_of c b i d = record { r = divided_of b i d c.r; g = divided_of b i d c.g; b = divided_of b i d c.b; a = divided_of b i d c.a }

-- ---- rule 5.12, `rasterize_textured_triangle`: plain interpolation
-- rule 3.13: a texture of these sides in n words
pub record Texture (width height n : ℕ) : Type 0 where
  pub some_width : 1 ≤ width
  pub some_height : 1 ≤ height
  pub top_width : width ≤ 1024
  pub top_height : height ≤ 1024
  pub in_words : (width * height + 1) / 2 ≤ n

-- `ty * width + tx`: the number of the texel at `uv`
unfoldable pub place_of : Sampler → Corners → ℕ
place_of s b = casts.texel_of (mix_of b s.v) s.height * s.width + casts.texel_of (mix_of b s.u) s.width

-- `data[ti + ch]`
unfoldable pub texel_of : List ℕ → Sampler → Corners → Rgba
texel_of texels s b = texel_at texels (place_of s b)

-- `t`: `data[ti + ch] as f32 / 255.0`
unfoldable pub plain_of : Rgba → Color
plain_of t = record { r = unit_of t.r; g = unit_of t.g; b = unit_of t.b; a = unit_of t.a }

-- `t * c[ch]`
unfoldable pub tinted_of : Color → Color → Color
tinted_of t c = record { r = t.r · c.r; g = t.g · c.g; b = t.b · c.b; a = t.a · c.a }

-- `c` of modes other than 1: interpolated, and each channel clamped
unfoldable pub mixed_of : Colors → Corners → Color
mixed_of c b = record { r = clamp_of (mix_of b c.r); g = clamp_of (mix_of b c.g); b = clamp_of (mix_of b c.b); a = clamp_of (mix_of b c.a) }

-- rule 5.14, `color`, of the texel t: in mode 0 as it is, in mode 1 times the flat colour, else times the interpolated one
unfoldable pub toned_of : Tone → Rgba → Corners → Rgba
toned_of Plain t b = rgba_of (plain_of t)
toned_of (Tinted c) t b = rgba_of (tinted_of (plain_of t) c)
toned_of (Mixed c) t b = rgba_of (tinted_of (plain_of t) (mixed_of c b))

-- ---- what an ink gives: if the denominator is at most 2^-23 in size, the depth is stored and the pixel is not (the `cond`)
unfoldable pub shade_of : List ℕ → Ink → Corners → Corners → Option Rgba
shade_of texels (Flat c) b i = Some c
shade_of texels (Blend c) b i = cond (tiny_of (mix_of b i)) None (Some (rgba_of (blend_of c b i (mix_of b i))))
shade_of texels (Textured s t) b i = Some (toned_of t (texel_of texels s b) b)

-- an ink's texture, if it has one, fits into n words
abbrev pub Stored : Ink → ℕ → Type 0
Stored (Flat c) n = Unit
Stored (Blend c) n = Unit
Stored (Textured s t) n = Texture s.width s.height n

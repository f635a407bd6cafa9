-- `toned_of`, in the tone of a mode, is `rgba` as the original writes it: for every mode, all floats (NaN among them) and every texel. Assumes nothing.
use Rattle.std.proofs.Common.{◌≡◌, ℕ, zero, suc, List, refl, arith, ne_eqb}
use Rattle.vector.specs.Three.{◌·◌, at}
use Rattle.vector.specs.Sums.{library_sum}
use Rattle.clip.specs.declared.vertex.ClipVertex.{ClipVertex}
use Rattle.screen.specs.declared.plane.Rgba.{Rgba}
use Rattle.face.specs.declared.Corners.{Corners}
use Rattle.face.specs.Face.{corner}
use Rattle.face.specs.Pixel.{mix_of}
use Rattle.face.specs.Source.{three_of}
use Rattle.face.proofs.Sums.{mix_sum}
use Rattle.raster.specs.declared.ink.Color.{Color}
use Rattle.raster.specs.Ink.{byte_of, rgba_of, channel_of, colors_of, plain_of, tinted_of, mixed_of, toned_of}
use Rattle.raster.specs.Triangles.{tone_of}
use Rattle.raster.specs.Source.{four_of, bytes_of, rgba_source}

module _ (tri : List ClipVertex) (color : Color) (t : Rgba) (b : Corners) where
  -- a channel of the interpolated colour
  mixed-channel : (ch : ℕ) → library_sum 3 (λ (i : ℕ). at (three_of b) i · at (corner tri i).color ch) ≡ mix_of b (channel_of tri ch)
  mixed-channel ch = mix_sum b (channel_of tri ch)

  pub toned_source : (mode : ℕ) → bytes_of (toned_of (tone_of tri mode color) t b) ≡ rgba_source tri mode (four_of color) (three_of b) (bytes_of t)
  unfolding tone_of toned_of rgba_of byte_of plain_of tinted_of mixed_of colors_of
  toned_source zero = refl
  toned_source (suc zero) = refl
  toned_source (suc (suc mode)) =
      rw (ne_eqb (suc (suc mode)) 0 (λ e. omega arith), ne_eqb (suc (suc mode)) 1 (λ e. omega arith), mixed-channel 0, mixed-channel 1, mixed-channel 2, mixed-channel 3)

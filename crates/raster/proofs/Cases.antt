-- Rule 9.11. Assumes nothing.
use Rattle.std.proofs.Common.{◌≡◌, [], ◌∷◌, pos, arith}
use lib.Ieee.{binary32, of_int}
use Rattle.ieee.proofs.Cuts.{cut_le}
use Rattle.vector.specs.Three.{◌·◌}
use Rattle.face.specs.declared.Corners.{Corners}
use Rattle.face.specs.Pixel.{mix_of}
use Rattle.raster.specs.declared.ink.Sampler.{Sampler}
use Rattle.texel.specs.Texel.{half_of, nibbles_of, texel_at}
use Rattle.raster.specs.Ink.{place_of, texel_of}

module _ (u v b : Corners) where
  -- a 1 × 1 texture, whatever u and v are at the corners
  abbrev one : Sampler
  one = record { width = 1; height = 1; u = u; v = v }

  -- each pixel has texel 0, also if u and v are far outside 0..1, infinite or NaN
  pub place-one : place_of one b ≡ 0
  unfolding place_of
  place-one = omega (arith, cut_le (mix_of b v · of_int binary32 (pos 1)) 0, cut_le (mix_of b u · of_int binary32 (pos 1)) 0)

  -- rule 9.11
  pub case_11 : texel_of (0xf0a5_1234 ∷ []) one b ≡ record { r = 255; g = 0; b = 170; a = 85 }
  unfolding texel_of texel_at half_of nibbles_of
  case_11 = rw place-one

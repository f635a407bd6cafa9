-- Rules 9.4 and 9.5, of the definitions. Assumes nothing.
use mathlib.Core.Path.{◌≡◌, refl, ◌∙◌}
use mathlib.Core.List.{List, [], ◌∷◌}
use Prim.Native.Nat.{ℕ, ◌+◌, ◌*◌, ◌<◌}
use native.Mathlib.Omega.{arith}
use lib.ListN.{length, get_or}
use Rattle.laws.specs.Cells.{map_at}
use Rattle.laws.proofs.Cells.{length-map_at, get_or-map_at}
use Rattle.screen.specs.Dither.{threshold_at, level_of, dither_of}
use Rattle.screen.specs.Plane.{width, height, plane_bytes, paint, shown, pixel_of}
use Rattle.screen.specs.declared.plane.Rgba.{Rgba}
use Rattle.screen.proofs.Pixels.{on_screen}

-- what a pixel reads after a fill, from the colour alone
pub filled_pixel : (c : Rgba) (P : List ℕ) (x y : ℕ) → length P ≡ plane_bytes → x < width → y < height
    → pixel_of (map_at (paint c) P) x y ≡ record { number = 0; bytes = shown c ((y * width + x) * 4) ∷ shown c ((y * width + x) * 4 + 1) ∷ shown c ((y * width + x) * 4 + 2) ∷ shown c ((y * width + x) * 4 + 3) ∷ [] }
unfolding paint
filled_pixel c P x y whole h k =
    on_screen (map_at (paint c) P) x y (length-map_at (paint c) P ∙ whole) h k
    ∙ rw (at ((y * width + x) * 4) (omega arith), at ((y * width + x) * 4 + 1) (omega arith), at ((y * width + x) * 4 + 2) (omega arith), at ((y * width + x) * 4 + 3) (omega arith))
  where
    at : (j : ℕ) → j < plane_bytes → get_or (map_at (paint c) P) j 0 ≡ shown c j
    at j l = get_or-map_at (paint c) P j 0 (omega arith)

abbrev pub grey : Rgba
grey = record { r = 128; g = 128; b = 128; a = 255 }

-- rule 9.4
pub case_4 : (P : List ℕ) → length P ≡ plane_bytes
    → (pixel_of (map_at (paint grey) P) 0 0 ≡ record { number = 0; bytes = 132 ∷ 132 ∷ 132 ∷ 255 ∷ [] })
    × (pixel_of (map_at (paint grey) P) 3 0 ≡ record { number = 0; bytes = 123 ∷ 123 ∷ 123 ∷ 255 ∷ [] })
unfolding shown level_of dither_of
case_4 P whole = (filled_pixel grey P 0 0 whole (omega arith) (omega arith), filled_pixel grey P 3 0 whole (omega arith) (omega arith))

-- rule 9.5
pub case_5 : (dither_of 1 (threshold_at 2 2) ≡ 8) × (dither_of 1 (threshold_at 2 0) ≡ 0) × (dither_of 254 (threshold_at 2 3) ≡ 255) × (dither_of 254 (threshold_at 0 3) ≡ 247)
unfolding level_of dither_of
case_5 = (refl, refl, refl, refl)

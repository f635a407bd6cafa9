-- Reading a pixel, case by case: what `pixel_of` is if the length is wrong, if the pixel is off the screen, and if it is on it. Assumes nothing.
use Prim.Native.Nat.{ℕ, ◌+◌, ◌*◌, ◌<◌, ◌≤◌}
use mathlib.Core.Path.{◌≡◌}
use mathlib.Core.Bool.{and-false}
use mathlib.Core.List.{List}
use borrow.Author.Tests.{lt-ltb, le-ltb, eq-eqb, ne_eqb}
use lib.Dec.{ltb}
use lib.ListN.{length}
use Rattle.screen.specs.Plane.{width, height, plane_bytes, nothing, four_from, pixel_of}

module _ (P : List ℕ) (x y : ℕ) where
  pub wrong_length_lem : (length P ≡ plane_bytes → ⊥) → pixel_of P x y ≡ record { number = 1; bytes = nothing }
  unfolding pixel_of
  wrong_length_lem h = simp (ne_eqb (length P) plane_bytes h)

  module _ (right : length P ≡ plane_bytes) where
    pub beyond_right : width ≤ x → pixel_of P x y ≡ record { number = 0; bytes = nothing }
    unfolding pixel_of
    beyond_right h = simp (eq-eqb (length P) plane_bytes right, le-ltb x width h)

    pub below_bottom : height ≤ y → pixel_of P x y ≡ record { number = 0; bytes = nothing }
    unfolding pixel_of
    below_bottom h = simp (eq-eqb (length P) plane_bytes right, le-ltb y height h, and-false (ltb x width))

    pub on_screen : x < width → y < height → pixel_of P x y ≡ record { number = 0; bytes = four_from P ((y * width + x) * 4) }
    unfolding pixel_of
    on_screen h k = simp (eq-eqb (length P) plane_bytes right, lt-ltb x width h, lt-ltb y height k)

-- The pattern comes back every four pixels of a row and every four rows, so a tile that is repeated paints on. Assumes nothing.
use mathlib.Core.Path.{◌≡◌}
use mathlib.Core.List.{List}
use Prim.Native.Nat.{ℕ, ◌+◌, ◌-◌, ◌*◌, ◌/◌, ◌%◌, ◌<◌}
use native.Mathlib.Omega.{arith}
use lib.ListN.{length}
use Rattle.laws.specs.Cells.{map_range}
use Rattle.screen.specs.Plane.{plane_bytes, echo, paint, shown}
use Rattle.screen.specs.declared.plane.Rgba.{Rgba}
use Rattle.screen.proofs.Echo.{echo-painted}

-- a colour shows alike in two bytes of the same channel whose pixels agree modulo 4
alike : (c : Rgba) (i j : ℕ) → i % 4 ≡ j % 4 → i / 4 % 320 % 4 ≡ j / 4 % 320 % 4 → i / 4 / 320 % 4 ≡ j / 4 / 320 % 4 → shown c i ≡ shown c j
unfolding shown
alike c i j p q r = rw (p, q, r)

module _ (y k : ℕ) (inside : k < 1264) where
  row : (y * 1280 + 16 + k) / 4 / 320 ≡ y
  row = omega arith

  back_row : (y * 1280 + 16 - 16 + k % 16) / 4 / 320 ≡ y
  back_row = omega arith

  column : (y * 1280 + 16 + k) / 4 % 320 ≡ 4 + k / 4
  column = omega arith

  back_column : (y * 1280 + 16 - 16 + k % 16) / 4 % 320 ≡ k % 16 / 4
  back_column = omega arith

four-on : (k : ℕ) → k % 16 / 4 % 4 ≡ (4 + k / 4) % 4
four-on k = omega arith

same_channel : (y k : ℕ) → (y * 1280 + 16 - 16 + k % 16) % 4 ≡ (y * 1280 + 16 + k) % 4
same_channel y k = omega arith

module _ (c : Rgba) (xs ys zs : List ℕ) (whole : length xs ≡ plane_bytes) where
  -- sixteen bytes on, in the row that begins at byte y * 1280
  pub row_painted : (y : ℕ) → y < 240 → ys ≡ map_range (paint c) (y * 1280) (y * 1280 + 16) xs
      → zs ≡ map_range (echo ys 16 (y * 1280 + 16)) (y * 1280 + 16) (y * 1280 + 1280) ys → zs ≡ map_range (paint c) (y * 1280) (y * 1280 + 1280) xs
  row_painted y h e f =
      echo-painted c 16 (y * 1280) (y * 1280 + 16) (y * 1280 + 1280) xs ys zs (omega arith) (omega arith) (omega arith) (omega arith)
      (λ k u. let i : k < 1264 = omega arith in
      alike c _ _ (same_channel y k) (rw (back_column y k i, column y k i) (four-on k)) (rw (back_row y k i, row y k i)))
      e f

  -- four rows on
  pub rows_painted : ys ≡ map_range (paint c) 0 5120 xs → zs ≡ map_range (echo ys 5120 5120) 5120 plane_bytes ys → zs ≡ map_range (paint c) 0 plane_bytes xs
  rows_painted e f =
      echo-painted c 5120 0 5120 plane_bytes xs ys zs (omega arith) (omega arith) (omega arith) (omega arith)
      (λ k u. alike c _ _ (omega arith) (omega arith) (omega arith)) e f

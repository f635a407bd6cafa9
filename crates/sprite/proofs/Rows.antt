-- A copy by rows and by pixels: what is not under the sprite stays, a pixel that is gets its texel, and that texel is in the texture's words. Assumes nothing.
use mathlib.Core.Path.{◌≡◌, ◌∙◌}
use mathlib.Core.Bool.{true, false, and-false}
use mathlib.Core.List.{List}
use Prim.Native.Nat.{ℕ, ◌+◌, ◌-◌, ◌*◌, ◌/◌, ◌%◌, ◌<◌, ◌≤◌}
use native.Mathlib.Omega.{arith}
use borrow.Author.Tests.{ltb-true, eq-eqb, ne_eqb}
use lib.Dec.{ltb}
use lib.IntN.{ℤ, pos}
use lib.Signed.{le_z}
use Rattle.laws.specs.Cells.{map_range}
use Rattle.laws.proofs.Cells.{range_skip, range_swap}
use Rattle.laws.proofs.Bools.{and_right}
use Rattle.screen.specs.Plane.{width, paint}
use Rattle.screen.specs.declared.plane.Rgba.{Rgba}
use Rattle.texel.specs.Texel.{texel_at}
use Rattle.texel.proofs.Grid.{grid, small}
use Rattle.sprite.specs.declared.words.Sprite.{Sprite}
use Rattle.sprite.specs.Sprite.{offset, under, covers, place_of, over, sprite_byte}
use Rattle.sprite.specs.Spans.{Placed, AtRow, AtPixel}

pub under-offset : (at : ℤ) (n x : ℕ) → under at n x ≡ true → offset at x < n
unfolding under
under-offset at n x h = ltb-true (offset at x) n (and_right (le_z at (pos x)) (ltb (offset at x) n) h)

module _ (s : Sprite) where
  -- a texel of the rectangle is in the texture's words
  pub in_texture : {n : ℕ} → Placed s n → (x y : ℕ) → under s.x s.width x ≡ true → under s.y s.height y ≡ true → place_of s x y / 2 < n
  unfolding place_of
  in_texture h x y a b =
      let i = under-offset s.x s.width x a in
      let j = under-offset s.y s.height y b in
      omega (arith, h.in_words, grid s.stride (s.source_y + s.height) (s.source_x + offset s.x x) (s.source_y + offset s.y y) (omega (arith, h.in_width)) (omega arith) (omega (arith, h.in_width)) (omega arith))

  -- where a row of the texture begins, in numbers that fit
  pub row_fits : {n : ℕ} → Placed s n → {y row : ℕ} → AtRow s y row → row * s.stride ≤ 1048576
  row_fits h {y} {row} r = small row s.stride (omega (arith, r.is_row, under-offset s.y s.height y r.under_it, h.top_height)) h.top_width

  -- the texel, as the loops count
  pub place_is : (x y row skip start : ℕ) → row ≡ s.source_y + offset s.y y → offset s.x x ≡ skip + (x - start)
      → row * s.stride + (s.source_x + skip) + (x - start) ≡ place_of s x y
  unfolding place_of
  place_is x y row skip start e d = rw (← e, d) (omega arith)

  module _ (T : List ℕ) (y : ℕ) where
    -- columns of row y that are not under it
    pub row_clear : (lo hi from to : ℕ) (P : List ℕ) → hi ≤ width → ((x : ℕ) → lo ≤ x → x < hi → under s.x s.width x ≡ false)
        → from ≡ (y * width + lo) * 4 → to ≡ (y * width + hi) * 4 → P ≡ map_range (sprite_byte s T) from to P
    unfolding sprite_byte covers
    row_clear lo hi from to P b h ef et =
        range_skip 0 (sprite_byte s T) from to P
        (λ k p q. let e : k / 4 / width ≡ y = omega arith in rw (e, h (k / 4 % width) (omega arith) (omega arith)))

  -- a pixel that is: with alpha 0 it stays, else it is painted
  module _ (T : List ℕ) (x y : ℕ) (h : AtPixel s x y) (c : Rgba) (e : c ≡ texel_at T (place_of s x y)) (P : List ℕ) where
    pub pixel_stays : c.a ≡ 0 → P ≡ map_range (sprite_byte s T) ((y * width + x) * 4) ((y * width + x) * 4 + 4) P
    unfolding sprite_byte covers over
    pixel_stays z =
        range_skip 0 (sprite_byte s T) ((y * width + x) * 4) ((y * width + x) * 4 + 4) P
        (λ k p q.
        let ex : k / 4 % width ≡ x = omega (arith, h.in_row) in
        let ey : k / 4 / width ≡ y = omega (arith, h.in_row) in
        rw (ex, ey, h.under_x, h.under_y, ← e, eq-eqb c.a 0 z))

    pub pixel_painted : {P' : List ℕ} → (c.a ≡ 0 → ⊥) → P' ≡ map_range (paint c) ((y * width + x) * 4) ((y * width + x) * 4 + 4) P
        → P' ≡ map_range (sprite_byte s T) ((y * width + x) * 4) ((y * width + x) * 4 + 4) P
    unfolding sprite_byte covers over
    pixel_painted z w =
        w
        ∙ range_swap 0 (paint c) (sprite_byte s T) ((y * width + x) * 4) ((y * width + x) * 4 + 4) P
        (λ k p q.
        let ex : k / 4 % width ≡ x = omega (arith, h.in_row) in
        let ey : k / 4 / width ≡ y = omega (arith, h.in_row) in
        rw (ex, ey, h.under_x, h.under_y, ← e, ne_eqb c.a 0 z))

  -- rows that are not under it
  pub rows_clear : (T : List ℕ) (lo hi : ℕ) (P : List ℕ) → ((y : ℕ) → lo ≤ y → y < hi → under s.y s.height y ≡ false)
      → P ≡ map_range (sprite_byte s T) (lo * width * 4) (hi * width * 4) P
  unfolding sprite_byte covers
  rows_clear T lo hi P h =
      range_skip 0 (sprite_byte s T) (lo * width * 4) (hi * width * 4) P
      (λ k p q. rw (h (k / 4 / width) (omega arith) (omega arith), and-false (under s.x s.width (k / 4 % width))))

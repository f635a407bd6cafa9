-- What the steps of a copy are given, and what they leave. Definitions only.
use Rattle.std.specs.Prelude.{◌≡◌, true, false, ℕ, ◌+◌, ◌-◌, ◌*◌, ◌<◌, ◌≤◌, ℤ}
use Rattle.laws.specs.Within.{Within}
use Rattle.flat.specs.Edge.{reach}
use Rattle.screen.specs.Plane.{width, height}
use Rattle.sprite.specs.declared.words.Sprite.{Sprite}
use Rattle.sprite.specs.declared.span.Span.{Span}
use Rattle.sprite.specs.Sprite.{offset, under}

-- a sprite that is not refused, whose texture has n words
pub record Placed (s : Sprite) (n : ℕ) : Type 0 where
  pub in_x : Within reach s.x
  pub in_y : Within reach s.y
  pub in_width : s.source_x + s.width ≤ s.stride
  pub in_words : s.stride * (s.source_y + s.height) ≤ n + n
  pub top_width : s.stride ≤ 1024
  pub top_height : s.source_y + s.height ≤ 1024

-- of the n columns of the screen, those from r.start to r.end are under a sprite of `size` columns that begins at `at`, and no others
pub record Reached (at : ℤ) (size n : ℕ) (r : Span) : Type 0 where
  pub ordered : r.start ≤ r.end
  pub on_screen : r.end ≤ n
  pub in_sprite : r.skip ≤ size
  pub in_front : (x : ℕ) → x < r.start → under at size x ≡ false
  pub between : (x : ℕ) → r.start ≤ x → x < r.end → under at size x ≡ true
  pub behind : (x : ℕ) → r.end ≤ x → x < n → under at size x ≡ false
  pub place : (x : ℕ) → r.start ≤ x → x < r.end → offset at x ≡ r.skip + (x - r.start)

-- row y of the screen is under the sprite, and shows row `row` of the texture
pub record AtRow (s : Sprite) (y row : ℕ) : Type 0 where
  pub on_screen : y < height
  pub under_it : under s.y s.height y ≡ true
  pub is_row : row ≡ s.source_y + offset s.y y

-- the pixel (x, y) is under the sprite
pub record AtPixel (s : Sprite) (x y : ℕ) : Type 0 where
  pub in_row : x < width
  pub on_screen : y < height
  pub under_x : under s.x s.width x ≡ true
  pub under_y : under s.y s.height y ≡ true

-- Drawing over two lent buffers: depths, one to a pixel, and the plane, four bytes to a pixel. Each pixel is visited at most once.
--     near k old    does the drawing show at the pixel k, whose depth is old? If k is not covered, it does not
--     new k         the depth that it then leaves
--     ink j old     what it then leaves in the byte j of the plane
-- The depths are of any type: z is what `get_or` gives past their end. Assumes nothing.
use Rattle.std.specs.Prelude.{◌≡◌, Bool, cond, List, ℕ, ◌*◌, ◌/◌, get_or}
use Rattle.laws.specs.Cells.{map_range}

-- rule 1.2: how many pixels there are. As many numbers of each depth are lent
abbrev pub pixels : ℕ
pixels = 76800

-- a depth afterwards
unfoldable pub depth_step : {Z : Type 0} → (ℕ → Z → Bool) → (ℕ → Z) → ℕ → Z → Z
depth_step near new k old = cond (near k old) (new k) old

-- a byte of the plane afterwards, if the drawing finds the depths D
unfoldable pub byte_step : {Z : Type 0} → Z → (ℕ → Z → Bool) → (ℕ → ℕ → ℕ) → List Z → ℕ → ℕ → ℕ
byte_step z near ink D j old = cond (near (j / 4) (get_or D (j / 4) z)) (ink j old) old

-- the pixels from lo to hi are drawn: D and P are the depths and the plane before, D' and P' after
pub record Drawn {Z : Type 0} (z : Z) (near : ℕ → Z → Bool) (new : ℕ → Z) (ink : ℕ → ℕ → ℕ) (lo hi : ℕ) (D : List Z) (P : List ℕ) (D' : List Z) (P' : List ℕ) : Type 0 where
  pub depth_is : D' ≡ map_range (depth_step near new) lo hi D
  pub plane-is : P' ≡ map_range (byte_step z near ink D) (lo * 4) (hi * 4) P

-- The original's `edge`, and what three of them say about a pixel. Assumes nothing.
use Rattle.std.specs.Prelude.{◌≡◌, Bool, true, cond, ◌&&◌, ◌||◌, ℕ, ◌+◌, ◌*◌, ℤ, pos, ◌+ℤ◌, ◌-ℤ◌, ◌*ℤ◌}
use Rattle.std.specs.Int.Signed.{lt_z, le_z, quot_z}
use Rattle.std.specs.Int.{w32}
use Rattle.std.proofs.Common.{SFits}
use Rattle.laws.specs.Within.{Within}
use Rattle.screen.specs.Plane.{width, height}

-- rule 4.2: how far from 0 a coordinate may be
abbrev pub reach : ℕ
reach = 8192

-- `edge`: the edge from a to b, at p
unfoldable pub edge_of : ℤ → ℤ → ℤ → ℤ → ℤ → ℤ → ℤ
edge_of ax ay bx by px py = (px -ℤ ax) *ℤ (by -ℤ ay) -ℤ (py -ℤ ay) *ℤ (bx -ℤ ax)

-- rule 4.3, `inside`, for one edge: 0 agrees with either sign
unfoldable pub agrees_of : ℤ → ℤ → Bool
agrees_of area w = cond (lt_z (pos 0) area) (le_z (pos 0) w) (le_z w (pos 0))

-- rule 4.3: there is an area
unfoldable pub has_area : ℤ → Bool
has_area area = lt_z (pos 0) area || lt_z area (pos 0)

-- `inside`
unfoldable pub inside_of : ℤ → ℤ → ℤ → ℤ → Bool
inside_of area w0 w1 w2 = has_area area && (agrees_of area w0 && (agrees_of area w1 && agrees_of area w2))

-- rule 4.4, `d`
unfoldable pub weighted_of : ℤ → ℤ → ℤ → ℤ → ℤ → ℤ → ℤ → ℤ
weighted_of area w0 w1 w2 z0 z1 z2 = quot_z (w0 *ℤ z0 +ℤ w1 *ℤ z1 +ℤ w2 *ℤ z2) area

-- ---- how large these are
pub record Near (ax ay bx by px py : ℤ) : Type 0 where
  pub near_ax : Within reach ax
  pub near_ay : Within reach ay
  pub near_bx : Within reach bx
  pub near_by : Within reach by
  pub near_px : Within reach px
  pub near_py : Within reach py

-- two coordinates are at most this far apart
abbrev pub span : ℕ
span = reach + reach

-- at a pixel of the screen an edge is at most this in size
abbrev pub steepest : ℕ
steepest = (width + reach) * span + (height + reach) * span

-- the edges at a pixel that is inside, whose sum is the area, and depths of 32 bits
pub record Weighed (area w0 w1 w2 z0 z1 z2 : ℤ) : Type 0 where
  pub in_w0 : Within steepest w0
  pub in_w1 : Within steepest w1
  pub in_w2 : Within steepest w2
  pub in_z0 : SFits w32 z0
  pub in_z1 : SFits w32 z1
  pub in_z2 : SFits w32 z2
  pub sums : area ≡ w0 +ℤ w1 +ℤ w2
  pub inside : inside_of area w0 w1 w2 ≡ true

-- What the steps of a draw are given, and what they leave. Assumes nothing.
use Rattle.std.specs.Prelude.{◌≡◌, true, false, List, ℕ, ◌<◌, ◌≤◌, ℤ, pos}
use Rattle.std.specs.Int.Signed.{lt_z}
use Rattle.screen.specs.Plane.{width, height, paint}
use Rattle.screen.specs.Draw.{Drawn}
use Rattle.flat.specs.declared.tri.Tri.{Tri}
use Rattle.screen.specs.declared.bounds.Bounds.{Bounds}
use Rattle.flat.specs.Tri.{covers, shows, depth_of}

-- the pixels from lo to hi are drawn
abbrev pub TriDrawn : Tri → ℕ → ℕ → List ℤ → List ℕ → List ℤ → List ℕ → Type 0
TriDrawn t = Drawn (pos 0) (shows t) (depth_of t) (paint t.color)

-- the corners the other way round
unfoldable pub turned_of : Tri → Tri
turned_of t = record { p0 = t.p0; p1 = t.p2; p2 = t.p1; color = t.color }

-- a column (or a row) before, and beyond, three corners
pub record Before (x : ℕ) (a b c : ℤ) : Type 0 where
  pub first : lt_z (pos x) a ≡ true
  pub second : lt_z (pos x) b ≡ true
  pub third : lt_z (pos x) c ≡ true

pub record Beyond (x : ℕ) (a b c : ℤ) : Type 0 where
  pub first : lt_z a (pos x) ≡ true
  pub second : lt_z b (pos x) ≡ true
  pub third : lt_z c (pos x) ≡ true

-- bounds on the screen, outside which no pixel is covered
pub record Boxed (t : Tri) (b : Bounds) : Type 0 where
  pub on_left : b.left ≤ width
  pub on_right : b.right ≤ width
  pub on_top : b.top ≤ height
  pub on_bottom : b.bottom ≤ height
  pub before_left : (x y : ℕ) → x < b.left → covers t x y ≡ false
  pub from_right : (x y : ℕ) → b.right ≤ x → x < width → covers t x y ≡ false
  pub above_top : (x y : ℕ) → y < b.top → covers t x y ≡ false
  pub from_bottom : (x y : ℕ) → b.bottom ≤ y → y < height → covers t x y ≡ false

-- Where a pixel's bytes are. Assumes nothing.
use mathlib.Core.Path.{◌≡◌}
use Prim.Native.Nat.{ℕ, ◌+◌, ◌*◌, ◌/◌, ◌%◌, ◌<◌}
use native.Mathlib.Omega.{arith}
use Rattle.screen.specs.Dither.{threshold_at}
use Rattle.screen.specs.Plane.{width, channel, shown}
use Rattle.screen.specs.declared.plane.Rgba.{Rgba}

-- channel k of the pixel at (x, y)
pub shown-at : (c : Rgba) (x y j k : ℕ) → x < width → k < 4 → j ≡ (y * width + x) * 4 + k → shown c j ≡ channel c (threshold_at x y) k
unfolding shown
shown-at c x y j k hx hk e =
    let p : j / 4 ≡ y * 320 + x = omega arith in
    let q : j % 4 ≡ k = omega arith in
    let m : (y * 320 + x) % 320 ≡ x = omega arith in
    let n : (y * 320 + x) / 320 ≡ y = omega arith in
    rw (p, q, m, n)

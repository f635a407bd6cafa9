-- A place in a grid of at most 1024 by 1024. Assumes nothing.
use Prim.Native.Nat.{ℕ, suc, ◌+◌, ◌-◌, ◌*◌, ◌≤◌, ◌<◌}
use native.Mathlib.Nat.{suc-mul, mul_comm, mul-le-mul, mul-le-mul_right}
use native.Mathlib.Omega.{arith}

pub grid : (w h x y : ℕ) → 1 ≤ w → 1 ≤ h → x ≤ w - 1 → y ≤ h - 1 → y * w + x < w * h
grid w h x y hw hh hx hy =
    let m = mul-le-mul_right {m = suc y} {n = h} w (omega arith) in
    omega (arith, m, suc-mul y w, mul_comm w h)

pub small : (w h : ℕ) → w ≤ 1024 → h ≤ 1024 → w * h ≤ 1048576
small w h a b = mul-le-mul a b

-- A size in units of 2 ^ -149, and the whole numbers next to it. Definitions only.
use Rattle.std.specs.Prelude.{ℕ, ◌+◌, ◌*◌, ◌^◌, ◌≤◌, ◌<◌}

-- n units rounded down are z: z ≤ n * 2 ^ -149 < z + 1
pub record Down (n z : ℕ) : Type 0 where
  pub low : z * 2 ^ 149 ≤ n
  pub high : n < (z + 1) * 2 ^ 149

-- n units rounded up are z: z - 1 < n * 2 ^ -149 ≤ z
pub record Up (n z : ℕ) : Type 0 where
  pub low : z * 2 ^ 149 < n + 2 ^ 149
  pub high : n ≤ z * 2 ^ 149

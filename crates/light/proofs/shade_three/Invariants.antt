-- The invariant: the corners below v are shaded. Assumes nothing.
use Rattle.std.proofs.Common.{◌≡◌, ℕ, ◌<◌, length}
use Rattle.light.specs.Light.{row_of, shade_at}
use Rattle.light.proofs.shade_three.Given as goal

abbrev pub invariant-loop-v : goal.invariant-loop-v
invariant-loop-v l = (length l.colors ≡ 3) × ((k : ℕ) → k < l.v → row_of l.colors k ≡ shade_at l.albedos l.positions l.normals l.lights k)

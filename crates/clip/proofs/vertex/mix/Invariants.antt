-- `clip::vertex::mix` meets its contract. The loop's invariant: the numbers before i are mixed. Assumes nothing.
use Rattle.std.proofs.Common.{◌≡◌, ℕ, ◌<◌, length, get_or}
use lib.Ieee.{nan}
use Rattle.vector.specs.Three.{at}
use Rattle.clip.specs.Vertices.{mix_of}
use Rattle.clip.proofs.vertex.mix.Given as goal

abbrev pub invariant-loop-i : goal.invariant-loop-i
invariant-loop-i g l = (length l.mixed ≡ g.row.N) × ((k : ℕ) → k < l.i → get_or l.mixed k nan ≡ mix_of l.t (at l.p k) (at l.c k))

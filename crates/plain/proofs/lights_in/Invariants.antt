-- The invariant: after i turns the first i elements are the map's (`Mapped.antt`). Assumes nothing.
use Rattle.plain.specs.Plain.{light_in}
use Rattle.plain.proofs.Mapped.{Mapped}
use Rattle.plain.proofs.lights_in.Given as goal

abbrev pub invariant-loop-i : goal.invariant-loop-i
invariant-loop-i l = Mapped light_in 8 l.lights l.i l.out

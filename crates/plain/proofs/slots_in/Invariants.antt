-- The invariant: after i turns the first i elements are the map's (`Mapped.antt`). Assumes nothing.
use Rattle.plain.specs.Plain.{slot_in}
use Rattle.plain.proofs.Mapped.{Mapped}
use Rattle.plain.proofs.slots_in.Given as goal

abbrev pub invariant-loop-i : goal.invariant-loop-i
invariant-loop-i l = Mapped slot_in 64 l.slots l.i l.out

-- The invariant: after i turns the first i elements are the map's (`Mapped.antt`). Assumes nothing.
use Rattle.plain.specs.Plain.{slot_out}
use Rattle.plain.proofs.Mapped.{Mapped}
use Rattle.plain.proofs.slots_out.Given as goal

abbrev pub invariant-loop-i : goal.invariant-loop-i
invariant-loop-i l = Mapped slot_out 64 l.slots l.i l.out

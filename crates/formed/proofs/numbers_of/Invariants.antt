-- `formed::numbers_of` meets its contract. The invariant: after i turns the first i elements are the map's (`Mapped.antt`). Assumes nothing.
use Rattle.formed.specs.Tests.{number_of}
use Rattle.store.proofs.Mapped.{Mapped}
use Rattle.formed.proofs.numbers_of.Given as goal

abbrev pub invariant-loop-i : goal.invariant-loop-i
invariant-loop-i l = Mapped number_of 64 l.slots l.i l.numbers

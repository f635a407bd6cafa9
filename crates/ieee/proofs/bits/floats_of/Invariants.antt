-- `ieee::bits::floats_of` meets its contract. After i turns the buffer is the paste of i values. Assumes nothing.
use Rattle.std.proofs.Common.{◌≡◌}
use lib.Seq.{paste}
use Rattle.ieee.specs.Words.{floats_of}
use Rattle.ieee.proofs.bits.floats_of.Given as goal

abbrev pub invariant-loop-i : goal.invariant-loop-i
invariant-loop-i l = l.out ≡ paste l.initial.out 0 (floats_of l.words) l.i

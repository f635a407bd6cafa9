-- A bit or with 0 is no change. Assumes nothing.
use mathlib.Core.Path.{sym}
use lib.Bits.{or_zero_r}
use Rattle.verdict.proofs.status_after.Goals as goal

pub returns-in-Ok : goal.returns-in-Ok
returns-in-Ok c = rw c.in-Ok.is (sym (or_zero_r _))

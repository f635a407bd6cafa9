use mathlib.Core.Path.{refl}
use native.Mathlib.Omega.{arith}
use borrow.Author.Rules.{rules}
use Rattle.plain.proofs.Mapped.{mapped_more, mapped_all}
use Rattle.plain.proofs.slots_out.Goals as goal

pub loop-i-init : goal.loop-i-init
loop-i-init c = record { within = omega arith; long-from = search rules; long_to = search rules; done = refl }

pub loop-i-preserved : goal.loop-i-preserved
loop-i-preserved c = mapped_more c.loop-i.invariant _ c.from.ensures (omega arith)

pub returns : goal.returns
returns c = mapped_all c.loop-i.invariant (omega arith)

-- `store::slots::Shelf::others` meets its contract. The invariant is `Packed`: the slots up to the index are done. Assumes nothing.
use Rattle.store.proofs.Walk.{Packed}
use Rattle.store.proofs.slots.Shelf.others.Given as goal

abbrev pub invariant-loop-s : goal.invariant-loop-s
invariant-loop-s l = Packed l.self.kind l.number l.s-items l.s-index l.left l.count l.total

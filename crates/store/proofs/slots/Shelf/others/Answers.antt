use mathlib.Core.Path.{◌≡◌, sym, ◌∙◌}
use mathlib.Core.Bool.{true, not}
use lib.ListN.{get_or}
use lib.Dec.{eqb}
use native.Mathlib.Omega.{arith}
use Rattle.store.specs.Slots.{no_slot, stays}
use Rattle.laws.proofs.Bools.{and_left}
use Rattle.store.proofs.Walk.{tally_count, tally_sum, tally_more, packed_more, packed_same}
use Rattle.store.proofs.slots.Shelf.others.Goals as goal
use Rattle.store.proofs.slots.Shelf.others.Goals.{then-keeps, else-keeps}

pub overflow_cast-left : goal.overflow_cast-left
overflow_cast-left c = omega (arith, tally_sum c.loop-s.invariant.tally)

pub offset_bounds-left-count : goal.offset_bounds-left-count
offset_bounds-left-count c = omega (arith, tally_count c.loop-s.invariant.tally)

pub bounds-left-count : goal.bounds-left-count
bounds-left-count c = omega (arith, tally_count c.loop-s.invariant.tally)

pub overflow_add-count : goal.overflow_add-count
overflow_add-count c = omega (arith, tally_count c.loop-s.invariant.tally)

pub overflow_add-total : goal.overflow_add-total
overflow_add-total c = let next = tally_more c.loop-s.invariant.tally (omega arith) c.area-total.result (sym c.keeps.ensures ∙ c.if-keeps.true) c.area-total.ensures in
    omega (arith, tally_sum next)

-- a slot that stays is held, so that its copy is
pub loop-s-preserved : goal.loop-s-preserved
loop-s-preserved c = let s = get_or c.args.self.slots c.loop-s.s-index no_slot in
    elim c.if-keeps.branch [
      | then-keeps w ↦ let stay : stays c.args.number s ≡ true = sym c.keeps.ensures ∙ w.if-keeps.true in
          let held : s.held ≡ true = and_left s.held (not (eqb s.number c.args.number)) stay in
          rw (w.left-is, w.count-is, w.total-is, held) (packed_more c.loop-s.invariant (omega arith) w.area-total.result stay w.area-total.ensures)
      | else-keeps w ↦ rw (w.left-is, w.count-is, w.total-is) (packed_same c.loop-s.invariant (omega arith) (sym c.keeps.ensures ∙ w.if-keeps.false))
    ]

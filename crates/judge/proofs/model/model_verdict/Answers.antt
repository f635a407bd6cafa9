-- The mode and the number, then the model's own words, record by record. Assumes nothing.
use Rattle.std.proofs.Common.{◌≡◌, ◌+◌, ◌*◌, ◌/◌, ◌≤◌, ◌∙◌, refl, arith, rules, length, get_or, take, drop, ◌-◌}
use Rattle.store.specs.declared.Kind.TheVariants.{Model}
use Rattle.store.proofs.Places.{part_is, part_long, inside-at}
use Rattle.judge.specs.Judge.{held_in}
use Rattle.judge.proofs.Laws.{found_by, model_refused, model_done}
use Rattle.judge.proofs.model.model_verdict.Goals as goal
use Rattle.judge.proofs.model.model_verdict.Goals.{In_ok-slot, Start}

long : (c : Start) → length c.args.model_slots ≡ 64
long c = search rules

inside : (c : In_ok-slot) → c.in_ok-slot.slot.start + 28 * c.in_ok-slot.slot.width ≤ length c.args.models.now
inside c = inside-at Model c.args.model_slots c.args.models.now (get_or c.args.p.now 0 0) (long (goal.at.In_ok-slot c).Start) c.requires.model_slots_value c.in_ok-slot.slot (found_by _ _ c.mode_and_number.ensures c.in_ok-slot.was)

pub returns-in_err-slot : goal.returns-in_err-slot
returns-in_err-slot c = let r = model_refused _ _ c.mode_and_number.ensures (held_in c.args.slots) c.args.m.now c.args.models.now c.in_err-slot.was in
    rw r (search rules)

pub slice_bounds-records-end : goal.slice_bounds-records-end
slice_bounds-records-end c = omega (arith, inside (goal.at.slice_bounds-records-end c).In_ok-slot)

pub returns : goal.returns
returns c = let slot = c.in_ok-slot.slot in
    let models = c.args.models.now in
    let is = part_is models slot.start (28 * slot.width) (28 * slot.width) refl in
    let all = part_long models slot.start (28 * slot.width) (28 * slot.width) refl (inside (goal.at.returns c).In_ok-slot) in
    let count : length (take (slot.start + 28 * slot.width - slot.start) (drop slot.start models)) / 28 ≡ slot.width = omega (arith, all) in
    rw (count, is) at c.records.ensures ∙ model_done _ _ c.mode_and_number.ensures (held_in c.args.slots) c.args.m.now models c.in_ok-slot.was

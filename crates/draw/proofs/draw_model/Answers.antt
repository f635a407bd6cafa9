-- The mode and the number, then the model's own words, record by record. Assumes nothing.
use Rattle.std.proofs.Common.{◌≡◌, ◌+◌, ◌-◌, ◌*◌, ◌/◌, ◌≤◌, ◌∙◌, refl, arith, rules, length, get_or, take, drop}
use Rattle.stroke.specs.Strokes.{strokes_on}
use Rattle.store.specs.Slots.{look_in}
use Rattle.store.specs.declared.Kind.TheVariants.{Texture, Model}
use Rattle.store.proofs.Places.{part_is, part_long, inside-at}
use Rattle.judge.proofs.Laws.{found_by, model_refused, model_done}
use Rattle.draw.specs.Draws.{has_in}
use Rattle.draw.proofs.Laws.{model_unpainted, model_painted}
use Rattle.draw.proofs.draw_model.Goals as goal
use Rattle.draw.proofs.draw_model.Goals.{In_ok-slot, Start}

long : (c : Start) → length c.args.model_slots ≡ 64
long c = search rules

inside : (c : In_ok-slot) → c.in_ok-slot.slot.start + 28 * c.in_ok-slot.slot.width ≤ length c.args.models.now
inside c = inside-at Model c.args.model_slots c.args.models.now (get_or c.args.p.now 0 0) (long (goal.at.In_ok-slot c).Start) c.requires.model_slots_value c.in_ok-slot.slot (found_by _ _ c.mode_and_number.ensures c.in_ok-slot.was)

-- the model's own words, and how many records they are
count : (c : In_ok-slot) → let slot = c.in_ok-slot.slot in
    length (take (slot.start + 28 * slot.width - slot.start) (drop slot.start c.args.models.now)) / 28 ≡ slot.width
count c = let slot = c.in_ok-slot.slot in
    let all = part_long c.args.models.now slot.start (28 * slot.width) (28 * slot.width) refl (inside c) in
    omega (arith, all)

pub returns-in_err-slot-clause-value : goal.returns-in_err-slot-clause-value
returns-in_err-slot-clause-value c =
    let r = model_refused _ _ c.mode_and_number.ensures (has_in (look_in Texture c.args.slots c.args.textures.now)) c.args.s.matrices c.args.models.now c.in_err-slot.was in
    rw r (search rules)

pub returns-in_err-slot-clause-depth_f32_after : goal.returns-in_err-slot-clause-depth_f32_after
unfolding strokes_on
returns-in_err-slot-clause-depth_f32_after c =
    let r = model_unpainted c.args.s c.args.p.now (look_in Texture c.args.slots c.args.textures.now) c.args.model_slots c.args.models.now c.mode_and_number.ensures c.in_err-slot.was in
    rw r

pub slice_bounds-draw_records-end : goal.slice_bounds-draw_records-end
slice_bounds-draw_records-end c = omega (arith, inside (goal.at.slice_bounds-draw_records-end c).In_ok-slot)

pub returns-clause-value : goal.returns-clause-value
returns-clause-value c =
    let slot = c.in_ok-slot.slot in
    let is = part_is c.args.models.now slot.start (28 * slot.width) (28 * slot.width) refl in
    let n = count (goal.at.returns-clause-value c).In_ok-slot in
    rw (n, is) at c.draw_records.ensures.value ∙ model_done _ _ c.mode_and_number.ensures (has_in (look_in Texture c.args.slots c.args.textures.now)) c.args.s.matrices c.args.models.now c.in_ok-slot.was

pub returns-clause-depth_f32_after : goal.returns-clause-depth_f32_after
returns-clause-depth_f32_after c =
    let slot = c.in_ok-slot.slot in
    let is = part_is c.args.models.now slot.start (28 * slot.width) (28 * slot.width) refl in
    let n = count (goal.at.returns-clause-depth_f32_after c).In_ok-slot in
    let strokes = model_painted c.args.s c.args.p.now (look_in Texture c.args.slots c.args.textures.now) c.args.model_slots c.args.models.now c.mode_and_number.ensures c.in_ok-slot.was in
    rw (← strokes) (rw (n, is) at c.draw_records.ensures.depth_f32_after)

-- Judged first; what is accepted is painted. Assumes nothing.
use Rattle.std.proofs.Common.{◌≡◌, sym, rules, length, get_or}
use Rattle.stroke.specs.Strokes.{strokes_on}
use Rattle.store.specs.declared.Kind.TheVariants.{Texture}
use Rattle.store.proofs.Places.{sides-at, inside-at}
use Rattle.draw.proofs.Laws.{judged_refused, judged_found, judged_done, judged_painted}
use Rattle.draw.proofs.draw_judged.Goals as goal

pub returns-in_err-slot-clause-value : goal.returns-in_err-slot-clause-value
returns-in_err-slot-clause-value g c =
    let r = (judged_refused c.args.s.now c.args.p.now c.args.has_normal c.args.slots.now c.args.textures.now c.textured_with.ensures c.in_err-slot.was).0 in
    rw r (search rules)

pub returns-in_err-slot-clause-depth_f32_after : goal.returns-in_err-slot-clause-depth_f32_after
unfolding strokes_on
returns-in_err-slot-clause-depth_f32_after g c =
    let r = (judged_refused c.args.s.now c.args.p.now c.args.has_normal c.args.slots.now c.args.textures.now c.textured_with.ensures c.in_err-slot.was).1 in
    rw r

pub paint_textured-requires-clause-height_value : goal.paint_textured-requires-clause-height_value
paint_textured-requires-clause-height_value g c =
    let long : length c.args.slots.now ≡ 64 = search rules in
    sides-at Texture c.args.slots.now c.args.textures.now (get_or c.args.p.now 0 0) long c.requires.slots_value _
    (judged_found c.args.s.now c.args.p.now c.args.has_normal c.args.slots.now c.args.textures.now c.textured_with.ensures c.in_ok-slot.was)

pub paint_textured-requires-clause-height_in_bounds : goal.paint_textured-requires-clause-height_in_bounds
paint_textured-requires-clause-height_in_bounds g c =
    let long : length c.args.slots.now ≡ 64 = search rules in
    inside-at Texture c.args.slots.now c.args.textures.now (get_or c.args.p.now 0 0) long c.requires.slots_value _
    (judged_found c.args.s.now c.args.p.now c.args.has_normal c.args.slots.now c.args.textures.now c.textured_with.ensures c.in_ok-slot.was)

pub returns-clause-value : goal.returns-clause-value
returns-clause-value g c = sym (judged_done c.args.s.now c.args.p.now c.args.has_normal c.args.slots.now c.args.textures.now c.textured_with.ensures c.in_ok-slot.was)

pub returns-clause-depth_f32_after : goal.returns-clause-depth_f32_after
unfolding strokes_on
returns-clause-depth_f32_after g c =
    let r = judged_painted c.args.s.now c.args.p.now c.args.has_normal c.args.slots.now c.args.textures.now c.textured_with.ensures c.in_ok-slot.was in
    rw r c.paint_textured.ensures

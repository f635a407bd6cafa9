-- The texture that is held, if one is; the checks; and what is accepted is copied. Assumes nothing.
use mathlib.Core.Path.{◌≡◌, sym, ◌∙◌}
use native.Mathlib.Omega.{arith}
use lib.ListN.{length, get_or}
use borrow.Author.Rules.{rules}
use Rattle.std.specs.Prelude.{Some}
use Rattle.store.specs.Slots.{slot_for}
use Rattle.store.specs.declared.Kind.TheVariants.{Texture}
use Rattle.store.proofs.Places.{sides-at, inside-at, part_long}
use Rattle.sprite.proofs.Held.{held-placed}
use Rattle.sprite.proofs.draw_sprite.Goals as goal

pub slice_bounds-texels-end : goal.slice_bounds-texels-end
slice_bounds-texels-end c =
    let long : length c.args.slots ≡ 64 = search rules in
    let found : slot_for (get_or c.args.p.now 0 0) c.args.slots ≡ Some c.in_ok-slot.slot = grind arith in
    let inside = inside-at Texture c.args.slots c.args.textures.now _ long c.requires.slots_value c.in_ok-slot.slot found in
    omega (arith, inside, c.area-size.ensures)

pub invariant_of-draw : goal.invariant_of-draw
invariant_of-draw c =
    let slot = c.in_ok-slot.slot in
    let long : length c.args.slots ≡ 64 = search rules in
    let found : slot_for (get_or c.args.p.now 0 0) c.args.slots ≡ Some slot = grind arith in
    let inside = inside-at Texture c.args.slots c.args.textures.now _ long c.requires.slots_value slot found in
    let sides = sides-at Texture c.args.slots c.args.textures.now _ long c.requires.slots_value slot found in
    let size = part_long c.args.textures.now slot.start c.area-size.result _ c.area-size.ensures inside in
    record { placed = rw c.sprite_of-sprite.ensures (held-placed c.args.p.now slot.width slot.height _ sides size (sym c.verdict_of.ensures ∙ c.in_ok-verdict_of.was)) }

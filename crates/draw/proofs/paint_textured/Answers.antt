-- The corners lit, the brush, and the texture's own words. Assumes nothing.
use Rattle.store.specs.Slots.{upload_at}
use Rattle.store.specs.declared.Kind.TheVariants.{Texture}
use Rattle.store.proofs.Places.{part_is, part_long}
use Rattle.draw.proofs.Laws.{textured_stored, textured_painted_lem}
use Rattle.draw.proofs.paint_textured.Goals as goal

pub paint-requires : goal.paint-requires
paint-requires c =
    record { stored = textured_stored _ _ _ _ _ _ c.textured_brush-brush.ensures c.requires.height_value (part_long c.args.textures.now c.args.slot.start c.area-size.result _ c.area-size.ensures c.requires.height_in_bounds) }

pub returns : goal.returns
returns c = let slot = c.args.slot in
    let part = part_is c.args.textures.now slot.start c.area-size.result _ c.area-size.ensures in
    textured_painted_lem _ _ _ _ _ (upload_at Texture slot c.args.textures.now) _ _ _ _ c.textured_lit-tri.ensures c.textured_brush-brush.ensures part c.paint.ensures

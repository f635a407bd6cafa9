-- A wrong length, or the arm of what is drawn. Assumes nothing.
use mathlib.Core.Path.{◌≡◌, sym, ap, ◌∙◌}
use lib.ListN.{length}
use Rattle.command.specs.Command.{draw_words}
use Rattle.execute.specs.Commands.{sprite_painted, flat_painted, transformed_painted, textured_painted, model_painted}
use Rattle.execute.proofs.Painted.{by_length, by_draw, transformed_words, textured_words, sprite-painted, flat-painted, strokes_painted}
use Rattle.execute.proofs.Laws.{because-is}
use Rattle.execute.proofs.paint.paint.Goals as goal
use Rattle.execute.proofs.paint.paint.Goals.{Else-p-draw_words}

-- a payload of the draw's length, and what was required at the start
long : (c : Else-p-draw_words) → length c.args.p.now ≡ draw_words c.args.draw
long c = c.if-p-draw_words.false ∙ c.draw_words.ensures

pub returns-then-p-draw_words : goal.returns-then-p-draw_words
returns-then-p-draw_words c = let both = by_length _ _ _ _ (λ e. c.if-p-draw_words.true (e ∙ sym c.draw_words.ensures)) _ _ (because-is c.wrong_length.ensures) in
    record { value = both.0; depth_f32_after = both.1 }

pub clear-requires : goal.clear-requires
clear-requires c = long (goal.at.clear-requires c).Else-p-draw_words ∙ ap draw_words c.in-Clear.is

pub draw_sprite-requires : goal.draw_sprite-requires
draw_sprite-requires c = record { p_len = long (goal.at.draw_sprite-requires c).Else-p-draw_words ∙ ap draw_words c.in-Sprite.is; slots_value = c.requires.slots_value }

pub draw_flat_triangle-requires : goal.draw_flat_triangle-requires
draw_flat_triangle-requires c = long (goal.at.draw_flat_triangle-requires c).Else-p-draw_words ∙ ap draw_words c.in-Flat.is

pub draw_transformed_triangle-requires : goal.draw_transformed_triangle-requires
draw_transformed_triangle-requires c = long (goal.at.draw_transformed_triangle-requires c).Else-p-draw_words ∙ ap draw_words c.in-Transformed.is ∙ transformed_words c.in-Transformed.has_normal

pub draw_textured_triangle-requires : goal.draw_textured_triangle-requires
draw_textured_triangle-requires c = record { p_len = long (goal.at.draw_textured_triangle-requires c).Else-p-draw_words ∙ ap draw_words c.in-Textured.is ∙ textured_words c.in-Textured.has_normal; slots_value = c.requires.slots_value }

pub draw_model-requires : goal.draw_model-requires
draw_model-requires c = record { p_len = long (goal.at.draw_model-requires c).Else-p-draw_words ∙ ap draw_words c.in-Model.is; slots_value = c.requires.slots_value; model_slots_value = c.requires.model_slots_value }

pub returns-in-Clear : goal.returns-in-Clear
returns-in-Clear c = let both = by_draw _ _ _ _ (long (goal.at.returns-in-Clear c).Else-p-draw_words) _ c.in-Clear.is _ _ _ c.clear.ensures.value c.clear.ensures.depth_f32_after in
    record { value = both.0; depth_f32_after = both.1 }

pub returns-in-Sprite : goal.returns-in-Sprite
unfolding sprite_painted
returns-in-Sprite c = let both = by_draw _ _ _ _ (long (goal.at.returns-in-Sprite c).Else-p-draw_words) _ c.in-Sprite.is _ _ _ c.draw_sprite.ensures.value (sprite-painted _ _ _ _ _ _ c.draw_sprite.ensures.plane_after) in
    record { value = both.0; depth_f32_after = both.1 }

pub returns-in-Flat : goal.returns-in-Flat
unfolding flat_painted
returns-in-Flat c = let flat = c.draw_flat_triangle.ensures in
    let both = by_draw _ _ _ _ (long (goal.at.returns-in-Flat c).Else-p-draw_words) _ c.in-Flat.is _ _ _ flat.value (flat-painted _ _ _ _ _ _ flat.depth_after flat.plane_after) in
    record { value = both.0; depth_f32_after = both.1 }

pub returns-in-Transformed : goal.returns-in-Transformed
unfolding transformed_painted
returns-in-Transformed c = let both = by_draw _ _ _ _ (long (goal.at.returns-in-Transformed c).Else-p-draw_words) _ c.in-Transformed.is _ _ _ c.draw_transformed_triangle.ensures.value (strokes_painted _ _ _ _ _ _ c.draw_transformed_triangle.ensures.depth_f32_after) in
    record { value = both.0; depth_f32_after = both.1 }

pub returns-in-Textured : goal.returns-in-Textured
unfolding textured_painted
returns-in-Textured c = let both = by_draw _ _ _ _ (long (goal.at.returns-in-Textured c).Else-p-draw_words) _ c.in-Textured.is _ _ _ c.draw_textured_triangle.ensures.value (strokes_painted _ _ _ _ _ _ c.draw_textured_triangle.ensures.depth_f32_after) in
    record { value = both.0; depth_f32_after = both.1 }

pub returns-in-Model : goal.returns-in-Model
unfolding model_painted
returns-in-Model c = let both = by_draw _ _ _ _ (long (goal.at.returns-in-Model c).Else-p-draw_words) _ c.in-Model.is _ _ _ c.draw_model.ensures.value (strokes_painted _ _ _ _ _ _ c.draw_model.ensures.depth_f32_after) in
    record { value = both.0; depth_f32_after = both.1 }

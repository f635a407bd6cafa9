-- A triangle inside all six planes is its own fan; any other is the fan of what the planes leave. Assumes nothing.
use mathlib.Core.Path.{◌≡◌, sym, ◌∙◌}
use mathlib.Core.Bool.{true}
use lib.ListN.{length}
use Rattle.clip.specs.Polygons.{all_inside}
use Rattle.clip.specs.Vertices.{full}
use Rattle.clip.proofs.Whole.{inside-drawn}
use Rattle.stroke.specs.Strokes.{fan_on, stroke_on}
use borrow.Author.Rules.{rules}
use Rattle.stroke.proofs.paint.Goals as goal

pub paint_fan-requires : goal.paint_fan-requires
paint_fan-requires c = record { stored = c.requires.stored; count_le_room = c.clip_all.ensures.few }

pub returns-then-inside : goal.returns-then-inside
unfolding stroke_on fan_on
returns-then-inside c = let long : length c.args.tri ≡ 3 = search rules in
    let inside : all_inside full c.args.tri ≡ true = sym c.all_inside-inside.ensures ∙ c.if-inside.true in
    rw (inside-drawn full c.args.tri long inside) c.paint_triangle.ensures

pub returns-else-inside : goal.returns-else-inside
unfolding stroke_on
returns-else-inside c = rw (← c.clip_all.ensures.are) c.paint_fan.ensures

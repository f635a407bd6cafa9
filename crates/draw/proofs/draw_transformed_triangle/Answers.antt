use Rattle.draw.proofs.Laws.{shaded_stored}
use Rattle.draw.proofs.draw_transformed_triangle.Goals as goal

pub paint-requires : goal.paint-requires
paint-requires c = record { stored = shaded_stored _ _ _ _ c.shaded_brush-brush.ensures }

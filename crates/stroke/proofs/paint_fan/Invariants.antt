-- The invariant: painting what is left of the fan from i on gives what the whole fan gives. Assumes nothing.
use mathlib.Core.Path.{◌≡◌}
use lib.ListN.{drop}
use Rattle.clip.specs.Polygons.{fan_from, fan}
use Rattle.clip.specs.Vertices.{of}
use Rattle.stroke.specs.Strokes.{sheet, fan_on}
use Rattle.stroke.proofs.paint_fan.Given as goal

abbrev pub invariant-loop-i : goal.invariant-loop-i
invariant-loop-i l = (fan_on l.brush l.texels (fan_from l.first (drop l.i (of l.fn.polygon))) (sheet l.plane l.depth_f32) ≡ fan_on l.brush l.texels (fan (of l.fn.polygon)) (sheet l.initial.plane l.initial.depth_f32))

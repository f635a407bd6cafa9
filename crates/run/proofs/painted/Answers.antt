-- A command that paints is the definition's, whose state is the one at hand with another frame. Assumes nothing.
use mathlib.Core.Path.{sym, ap}
use lib.Seq.{length-take-le}
use Rattle.execute.proofs.Executed.{paint-executed}
use Rattle.framing.specs.Frames.{with_frame}
use Rattle.run.proofs.painted.Goals as goal

pub slice_bounds-paint-end : goal.slice_bounds-paint-end
slice_bounds-paint-end c = sym (length-take-le c.args.f.gathered c.args.command.now c.requires.gathered_in_bounds)

pub paint-verdict-requires : goal.paint-verdict-requires
paint-verdict-requires c = let p = c.requires in
    record { slots_value = p.textures_value; model_slots_value = p.models_value }

pub returns : goal.returns
returns c = let s = c.args.s in
    paint-executed (with_frame s c.args.f) _ _ _ _ _ _ _ _ _ _ _ _ c.requires.opcode_value c.paint-verdict.ensures.value c.paint-verdict.ensures.depth_f32_after (ap (with_frame s) c.ended.ensures)

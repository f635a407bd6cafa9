-- Record after record; what is left of them completes what came before to the whole. Assumes nothing.
use Rattle.std.proofs.Common.{◌≡◌}
use Rattle.std.specs.Slice.Iter.{chunks_exact_rest, chunks_exact_size}
use Rattle.stroke.specs.Strokes.{sheet}
use Rattle.store.specs.Slots.{look_in}
use Rattle.store.specs.declared.Kind.TheVariants.{Texture}
use Rattle.draw.proofs.Laws.{Left}
use Rattle.draw.proofs.draw_records.Given as goal

abbrev pub invariant-loop-record : goal.invariant-loop-record
invariant-loop-record l = record {
  size : chunks_exact_size l.record-iterator ≡ 28;
  left : Left l.s l.mode (look_in Texture l.slots l.textures) l.words (sheet l.initial.plane l.initial.depth_f32) (sheet l.plane l.depth_f32) l.verdict (chunks_exact_rest l.record-iterator);
}

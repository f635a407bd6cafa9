-- The loop's invariant: what is left of the words, run on the machine at hand, is the whole run. A turn is a word, and a command if one is complete. Assumes nothing.
use lib.ListN.{length}
use Rattle.execute.specs.Kept.{machine}
use Rattle.run.proofs.Laws.{Held}
use Rattle.run.proofs.run_words.Given as goal

abbrev pub invariant-loop-w : goal.invariant-loop-w
invariant-loop-w l = Held l.words (machine l.initial.s l.initial.plane l.initial.depth l.initial.depth_f32 l.initial.command l.initial.textures l.initial.models) l.s l.f l.plane l.depth l.depth_f32 l.command l.textures l.models l.left

abbrev pub decreases-loop-w : goal.decreases-loop-w
decreases-loop-w l = length l.left

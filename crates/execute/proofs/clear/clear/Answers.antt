-- The verdict is the check's; the picture is by the two flags. Assumes nothing.
use mathlib.Core.Path.{sym, ◌∙◌}
use native.Mathlib.Omega.{arith}
use Rattle.execute.proofs.Laws.{clear-verdict, clear_both, clear-plane, clear-depths, clear-nothing}
use Rattle.execute.proofs.clear.clear.Goals as goal
use Rattle.execute.proofs.clear.clear.Goals.{then-flags-eq1, else-flags-eq1, then-flags-eq1-2, else-flags-eq1-2}

pub returns-clause-value : goal.returns-clause-value
returns-clause-value c = c.at_most.ensures ∙ sym (clear-verdict _)

pub returns-clause-depth_f32_after : goal.returns-clause-depth_f32_after
returns-clause-depth_f32_after c =
    elim c.if-flags-eq1.branch [
      | then-flags-eq1 w ↦
          elim c.if-flags-eq1-2.branch [
            | then-flags-eq1-2 v ↦ rw (w.plane-is, v.depth-is, v.depth_f32-is) (clear_both _ _ _ _ (omega arith) w.rgba_of.ensures w.fill.ensures (omega arith) v.refill.ensures.ints v.refill.ensures.floats)
            | else-flags-eq1-2 v ↦ rw (w.plane-is, v.depth-is, v.depth_f32-is) (clear-plane _ _ _ _ (omega arith) w.rgba_of.ensures w.fill.ensures (λ e. omega arith))
          ]
      | else-flags-eq1 w ↦
          elim c.if-flags-eq1-2.branch [
            | then-flags-eq1-2 v ↦ rw (w.plane-is, v.depth-is, v.depth_f32-is) (clear-depths _ _ _ _ (λ e. omega arith) (omega arith) v.refill.ensures.ints v.refill.ensures.floats)
            | else-flags-eq1-2 v ↦ rw (w.plane-is, v.depth-is, v.depth_f32-is) (clear-nothing _ _ _ _ (λ e. omega arith) (λ e. omega arith))
          ]
    ]

-- Record after record. Assumes nothing.
use Rattle.std.proofs.Common.{◌∙◌}
use Rattle.draw.proofs.Laws.{and_is, left_next, left_none}
use Rattle.draw.proofs.draw_records.Goals as goal

pub loop-record-preserved : goal.loop-record-preserved
loop-record-preserved c =
    let front = c.in-Some.ensures.steps in
    let inv = c.loop-record.invariant in
    let is = c.triangle_of-triangle.ensures in
    let next = left_next _ _ _ _ _ _ _ _ c.draw_judged-one.result _ _ _ inv.left front.1.0 (front.1.1 ∙ inv.size)
    (rw is at c.draw_judged-one.ensures.value) (rw is at c.draw_judged-one.ensures.depth_f32_after) in
    let joined = c.and-verdict.ensures ∙ and_is c.loop-record.verdict c.draw_judged-one.result in
    record { size = front.0 ∙ inv.size; left = rw joined next }

pub returns-clause-value : goal.returns-clause-value
returns-clause-value c = let inv = c.loop-record.invariant in
    (left_none _ _ _ _ _ _ _ _ inv.left (rw inv.size at c.in-None.ensures.steps.1.0)).0

pub returns-clause-depth_f32_after : goal.returns-clause-depth_f32_after
returns-clause-depth_f32_after c = let inv = c.loop-record.invariant in
    (left_none _ _ _ _ _ _ _ _ inv.left (rw inv.size at c.in-None.ensures.steps.1.0)).1

-- The verdict is the words' own; if it is done, the words' triangle may be drawn, and is. Assumes nothing.
use mathlib.Core.Path.{refl, sym, ◌∙◌}
use Rattle.flat.specs.Words.{flat_depths, flat_plane}
use Rattle.flat.proofs.Placed.{done-placed}
use Rattle.flat.proofs.draw_flat_triangle.Goals as goal

pub draw_tri-requires : goal.draw_tri-requires
draw_tri-requires c = rw c.tri_of.ensures (done-placed c.args.p.now c.type_inv.p (sym c.verdict_of.ensures ∙ c.in_ok-verdict_of.was))

pub returns-in_err-verdict_of-clause-depth_after : goal.returns-in_err-verdict_of-clause-depth_after
unfolding flat_depths
returns-in_err-verdict_of-clause-depth_after c = rw (sym c.verdict_of.ensures ∙ c.in_err-verdict_of.was) refl

pub returns-in_err-verdict_of-clause-plane_after : goal.returns-in_err-verdict_of-clause-plane_after
unfolding flat_plane
returns-in_err-verdict_of-clause-plane_after c = rw (sym c.verdict_of.ensures ∙ c.in_err-verdict_of.was) refl

pub returns-clause-depth_after : goal.returns-clause-depth_after
unfolding flat_depths
returns-clause-depth_after c = rw (sym c.verdict_of.ensures ∙ c.in_ok-verdict_of.was, ← c.tri_of.ensures) c.draw_tri.ensures.depth_after

pub returns-clause-plane_after : goal.returns-clause-plane_after
unfolding flat_plane
returns-clause-plane_after c = rw (sym c.verdict_of.ensures ∙ c.in_ok-verdict_of.was, ← c.tri_of.ensures) c.draw_tri.ensures.plane_after

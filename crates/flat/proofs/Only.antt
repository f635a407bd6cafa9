-- Two outcomes that satisfy the contract of `draw_flat_triangle` are one: the verdict, every depth and every byte are fixed. Assumes nothing.
use mathlib.Core.Path.{sym, ◌∙◌}
use Rattle.laws.specs.Determines.{Determines}
use Rattle.flat.proofs.draw_flat_triangle.Kinds.{ps, r}
use Rattle.flat.proofs.draw_flat_triangle.Reads.{Learnt}

pub only : Determines 3 ps r Learnt
only κs a x y ws vs (v, (d, p)) (w, (e, q)) = (v ∙ sym w, λ i. ((p ∙ sym q) i, ((d ∙ sym e) i, ws.1.1)))

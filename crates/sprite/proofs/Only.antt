-- Two outcomes that satisfy the contract of `draw_sprite` are one: the verdict and every byte are fixed. Assumes nothing.
use mathlib.Core.Path.{sym, ◌∙◌}
use Rattle.laws.specs.Determines.{Determines}
use Rattle.sprite.proofs.draw_sprite.Kinds.{ps, r}
use Rattle.sprite.proofs.draw_sprite.Reads.{Learnt}

pub sprite-only : Determines 3 ps r Learnt
sprite-only κs a x y ws vs (v, p) (w, q) = (v ∙ sym w, λ i. ((p ∙ sym q) i, ws.1))

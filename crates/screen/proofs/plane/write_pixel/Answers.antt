-- Four stores in a row are one range of the plane. Assumes nothing.
use mathlib.Core.Path.{◌≡◌, ◌∙◌, sym, ap, refl}
use Prim.Native.Nat.{ℕ}
use native.Mathlib.Omega.{arith}
use lib.ListN.{length-set}
use Rattle.laws.proofs.Cells.{set-four}
use Rattle.screen.specs.Dither.{dither_of}
use Rattle.screen.specs.Plane.{paint}
use Rattle.screen.proofs.Places.{shown-at}
use Rattle.screen.proofs.plane.write_pixel.Goals as goal

pub bounds-plane-index-2 : goal.bounds-plane-index-2
bounds-plane-index-2 c = simp length-set (omega arith)

pub bounds-plane-index-3 : goal.bounds-plane-index-3
bounds-plane-index-3 c = simp length-set (omega arith)

pub bounds-plane-index-4 : goal.bounds-plane-index-4
bounds-plane-index-4 c = simp length-set (omega arith)

pub returns : goal.returns
unfolding paint
returns c = let t = c.before.before.before in
    let a = t.args in
    let at = shown-at a.rgba a.x a.y in
    let under : (v : ℕ) → dither_of v t.threshold-t.result ≡ dither_of v _ = λ v. ap (dither_of v) t.threshold-t.ensures in
    set-four 0 (paint a.rgba) _ _ _ _ _ a.plane.now (omega arith)
    (at _ 0 (omega arith) (omega arith) (omega arith) ∙ sym (c.rgb555_dither.ensures ∙ under _))
    (at _ 1 (omega arith) (omega arith) refl ∙ sym (c.rgb555_dither-2.ensures ∙ under _))
    (at _ 2 (omega arith) (omega arith) refl ∙ sym (c.rgb555_dither-3.ensures ∙ under _))
    (at _ 3 (omega arith) (omega arith) refl)

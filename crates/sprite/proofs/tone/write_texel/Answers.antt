-- Four stores in a row are one range of the plane, each with its digit's tone. Assumes nothing.
use mathlib.Core.Path.{◌≡◌, ◌∙◌, sym, ap, refl}
use Prim.Native.Nat.{ℕ, ◌<◌}
use native.Mathlib.Omega.{arith}
use borrow.Author.Rules.{rules}
use lib.ListN.{length}
use Rattle.laws.proofs.Cells.{set-four}
use Rattle.screen.specs.Dither.{dither_of}
use Rattle.screen.specs.Plane.{paint}
use Rattle.screen.proofs.Places.{shown-at}
use Rattle.texel.specs.Texel.{nibbles_of}
use Rattle.sprite.proofs.Tones.{threshold_small}
use Rattle.sprite.proofs.tone.write_texel.Goals as goal
use Rattle.sprite.proofs.tone.write_texel.Goals.{After-threshold-t}

-- the threshold is below 16
small : (c : After-threshold-t) → c.threshold-t.result < 16
small c = rw c.threshold-t.ensures (threshold_small c.args.x c.args.y)

pub tone-requires : goal.tone-requires
tone-requires c = (omega arith, small c)

pub tone-requires-2 : goal.tone-requires-2
tone-requires-2 c = (omega arith, small (goal.at.tone-requires-2 c).After-threshold-t)

pub tone-requires-3 : goal.tone-requires-3
tone-requires-3 c = (omega arith, small (goal.at.tone-requires-3 c).After-threshold-t)

pub returns : goal.returns
unfolding paint nibbles_of
returns c = let long : length c.args.plane.now ≡ 307200 = search rules in
    let at = shown-at (nibbles_of c.args.texel) c.args.x c.args.y in
    let under : (v : ℕ) → dither_of v c.threshold-t.result ≡ dither_of v _ = λ v. ap (dither_of v) c.threshold-t.ensures in
    set-four 0 (paint (nibbles_of c.args.texel)) _ _ _ _ _ c.args.plane.now (omega arith)
    (at _ 0 (omega arith) (omega arith) (omega arith) ∙ sym (c.tone.ensures ∙ under _))
    (at _ 1 (omega arith) (omega arith) refl ∙ sym (c.tone-2.ensures ∙ under _))
    (at _ 2 (omega arith) (omega arith) refl ∙ sym (c.tone-3.ensures ∙ under _))
    (at _ 3 (omega arith) (omega arith) refl)

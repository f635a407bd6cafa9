use borrow.Author.Rules.{rules}
use mathlib.Core.Path.{◌≡◌}
use native.Mathlib.Omega.{arith}
use lib.ListN.{length}
use Rattle.clip.proofs.Fan.{fan-first, fan_next, fan_last}
use Rattle.stroke.specs.Strokes.{fan_on}
use Rattle.stroke.proofs.paint_fan.Goals as goal
use Rattle.stroke.proofs.paint_fan.Goals.{Start}

pub loop-i-init : goal.loop-i-init
loop-i-init c = let p = c.args.polygon in
    rw (fan-first p.vertices p.count)

pub loop-i-preserved : goal.loop-i-preserved
unfolding fan_on
loop-i-preserved c = let call = c.paint_triangle in
    let v = c.loop-i.invariant in
    let p = c.args.polygon in
    let long : length p.vertices ≡ 28 = search rules in
    rw call.ensures (rw (fan_next p.vertices p.count (omega arith) _ c.loop-i.i (omega (arith, c.saturating_sub-i-end.ensures, c.loop-i-test.true))) at v)

pub returns : goal.returns
unfolding fan_on
returns c = let p = c.args.polygon in
    let long : length p.vertices ≡ 28 = search rules in
    rw (fan_last p.vertices p.count (omega arith) _ c.loop-i.i (omega (arith, c.saturating_sub-i-end.ensures, c.loop-i-test.false))) at c.loop-i.invariant

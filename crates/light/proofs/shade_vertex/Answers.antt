use Prim.Native.Nat.{◌+◌, ◌<◌}
use mathlib.Core.Path.{◌≡◌, sym, ap, ◌∙◌}
use native.Mathlib.Omega.{arith}
use lib.ListN.{length, drop}
use Rattle.light.specs.Light.{lit_of}
use Rattle.light.proofs.Walk.{lit_on, lit_off, lit_end, shaded}
use Rattle.light.proofs.shade_vertex.Goals as goal
use Rattle.light.proofs.shade_vertex.Goals.{Joined-light, then-light, else-light}

-- a turn takes the light at i from what is left
turn : (c : Joined-light) → lit_of c.args.albedo c.args.position c.args.normal
    c.to_eye-view.result (drop c.loop-light.light-index c.args.lights.now)
    c.loop-light.rgb
    ≡ lit_of c.args.albedo c.args.position c.args.normal
    c.to_eye-view.result (drop (c.loop-light.light-index + 1) c.args.lights.now) c.if-light.rgb
turn c =
    let a = c.args in
    let in_list : c.loop-light.light-index < length a.lights.now = omega arith in
    let rest = lit_of a.albedo a.position a.normal c.to_eye-view.result (drop (c.loop-light.light-index + 1) a.lights.now) in
    elim c.if-light.branch [
      | then-light w ↦ lit_on a.albedo a.position a.normal _ a.lights.now c.loop-light.rgb c.loop-light.light-index _ in_list w.if-light.true ∙ ap rest (sym w.add_light-rgb.ensures ∙ sym w.rgb-is)
      | else-light w ↦ lit_off a.albedo a.position a.normal _ a.lights.now c.loop-light.rgb c.loop-light.light-index _ in_list w.if-light.false ∙ ap rest (sym w.rgb-is)
    ]

pub loop-light-preserved : goal.loop-light-preserved
loop-light-preserved c = c.loop-light.invariant ∙ turn c

pub returns : goal.returns
returns c = let a = c.args in
    shaded a.albedo a.position a.normal a.lights.now _ _ c.to_eye-view.ensures
    (sym (c.loop-light.invariant ∙ lit_end a.albedo a.position a.normal _ a.lights.now c.loop-light.rgb c.loop-light.light-index (omega arith)))

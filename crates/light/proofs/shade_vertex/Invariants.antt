-- The invariant: the lights that are left, from what has been added, come to the whole sum. Assumes nothing.
use mathlib.Core.Path.{◌≡◌}
use lib.ListN.{drop}
use Rattle.light.specs.Light.{lit_of}
use Rattle.light.proofs.shade_vertex.Given as goal

abbrev pub invariant-loop-light : goal.invariant-loop-light
invariant-loop-light l = lit_of l.albedo l.position l.normal l.view l.lights l.initial.rgb ≡ lit_of l.albedo l.position l.normal l.view (drop l.light-index l.lights) l.rgb

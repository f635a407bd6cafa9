-- The number of the light is one of eight, since it passed its check. Assumes nothing.
use mathlib.Core.Path.{sym, ◌∙◌}
use Rattle.settings.proofs.Changes.{light_number}
use Rattle.settings.proofs.set_light.Goals as goal

pub with_light-requires : goal.with_light-requires
with_light-requires c = light_number _ (sym c.light_verdict.ensures ∙ c.in_ok-light_verdict.was)

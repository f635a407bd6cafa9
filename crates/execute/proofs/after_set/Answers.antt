-- What is set is what the definition sets (Executed). Assumes nothing.
use mathlib.Core.Path.{sym, ◌∙◌}
use Rattle.std.specs.Prelude.{Ok, Err}
use Rattle.execute.proofs.Executed.{set-executed}
use Rattle.execute.proofs.after_set.Goals as goal

pub returns-in-Ok : goal.returns-in-Ok
returns-in-Ok c = λ T M. set-executed _ _ T M _ (Ok c.in-Ok.settings) _ c.requires.opcode_value (sym c.in-Ok.is ∙ c.set.ensures) c.ended.ensures

pub returns-in-Err : goal.returns-in-Err
returns-in-Err c = λ T M. set-executed _ _ T M _ (Err c.in-Err.refused) _ c.requires.opcode_value (sym c.in-Err.is ∙ c.set.ensures) c.ended-in-Err.ensures

-- What is kept is what the definition keeps, for either kind (Executed). Assumes nothing.
use mathlib.Core.Path.{ap, ◌∙◌}
use Rattle.std.specs.Prelude.{Some, Ok, Err}
use Rattle.store.specs.declared.Kind.{Kind}
use Rattle.command.specs.declared.Command.TheVariants.{Loads}
use Rattle.execute.proofs.Executed.{texture_executed, model_executed}
use Rattle.execute.proofs.after_load.Goals as goal

pub returns-in-Ok : goal.returns-in-Ok
returns-in-Ok c = texture_executed _ _ _ _ (Ok c.in-Ok.slots) _ _ (c.requires.opcode_value ∙ ap (λ (k : Kind). Some (Loads k)) c.in-Texture.is) c.in-Ok.ensures c.ended.ensures

pub returns-in-Err : goal.returns-in-Err
returns-in-Err c = texture_executed _ _ _ _ (Err c.in-Err.refused) _ _ (c.requires.opcode_value ∙ ap (λ (k : Kind). Some (Loads k)) c.in-Texture.is) c.in-Err.ensures c.ended-in-Err.ensures

pub returns-in-Ok-upload_model : goal.returns-in-Ok-upload_model
returns-in-Ok-upload_model c = model_executed _ _ _ _ (Ok c.in-Ok-upload_model.slots) _ _ (c.requires.opcode_value ∙ ap (λ (k : Kind). Some (Loads k)) c.in-Model.is) c.in-Ok-upload_model.ensures c.ended-in-Ok-upload_model.ensures

pub returns-in-Err-upload_model : goal.returns-in-Err-upload_model
returns-in-Err-upload_model c = model_executed _ _ _ _ (Err c.in-Err-upload_model.refused) _ _ (c.requires.opcode_value ∙ ap (λ (k : Kind). Some (Loads k)) c.in-Model.is) c.in-Err-upload_model.ensures c.ended-in-Err-upload_model.ensures

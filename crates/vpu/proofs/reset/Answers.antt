-- By the test of the lengths: each memory is filled by its own call. Assumes nothing.
use mathlib.Core.Path.{refl, sym, ◌∙◌, ap}
use Rattle.vpu.specs.Calls.{outcome, cleared}
use Rattle.run.proofs.Laws.{parts_machine}
use Rattle.vpu.proofs.Laws.{reset_wrong, reset-done}
use Rattle.vpu.proofs.reset.Goals as goal

pub returns-then-not-fits : goal.returns-then-not-fits
returns-then-not-fits c = ap (outcome 1)
    (parts_machine
    (record {
      state-is = c.fresh-state.ensures;
      plane-is = refl;
      depth_is = refl;
      floats_is = refl;
      command-is = refl;
      textures-is = refl;
      models-is = refl;
    }))
    ∙ sym (reset_wrong _ _ _ _ _ _ (sym c.lengths_ok-fits.ensures ∙ c.if-not-fits.true))

pub returns : goal.returns
unfolding cleared
returns c = ap (outcome 0)
    (parts_machine
    (record {
      state-is = c.fresh-state.ensures;
      plane-is = c.fill.ensures.after (λ y e. e);
      depth_is = c.refill.ensures.ints;
      floats_is = c.refill.ensures.floats;
      command-is = refl;
      textures-is = c.fill-2.ensures.after (λ y e. e);
      models-is = c.fill-3.ensures.after (λ y e. e);
    }))
    ∙ sym (reset-done _ _ _ _ _ _ (sym c.lengths_ok-fits.ensures ∙ c.if-not-fits.false))

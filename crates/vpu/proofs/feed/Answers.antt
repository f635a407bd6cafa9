-- By the tests of the lengths and of the state, in that order: each answer is a case of the definition. Assumes nothing.
use mathlib.Core.Path.{sym, ◌∙◌, ap}
use Rattle.vpu.specs.Calls.{outcome}
use Rattle.vpu.proofs.Laws.{sound, feed_wrong, feed_malformed, feed-done}
use Rattle.vpu.proofs.feed.Goals as goal

pub returns-then-not-right : goal.returns-then-not-right
returns-then-not-right c = sym (feed_wrong _ _ _ _ _ _ _ _ (sym c.lengths_ok-right.ensures ∙ c.if-not-right.true))

pub returns-then-not-formed : goal.returns-then-not-formed
returns-then-not-formed c = sym (feed_malformed _ _ _ _ _ _ _ _ (sym c.lengths_ok-right.ensures ∙ c.if-not-right.false) (sym c.well_formed-formed.ensures ∙ c.if-not-formed.true))

pub run_words-after-requires : goal.run_words-after-requires
run_words-after-requires c = sound _ _ _ _ _ _ _ (sym c.lengths_ok-right.ensures ∙ c.if-not-right.false) (sym c.well_formed-formed.ensures ∙ c.if-not-formed.false)

pub returns : goal.returns
returns c = ap (outcome 0) c.run_words-after.ensures
    ∙ sym (feed-done _ _ _ _ _ _ _ _ (sym c.lengths_ok-right.ensures ∙ c.if-not-right.false) (sym c.well_formed-formed.ensures ∙ c.if-not-formed.false))

-- By the tests of the switches and of the lengths; else by what the machine's call ensures, between `state_in` and `state_out`. Assumes nothing.
use mathlib.Core.Path.{sym, ◌∙◌}
use Rattle.vpu_c.proofs.Laws.{feed_c_wrong, feed_c_switch, fed}
use Rattle.vpu_c.proofs.vpu_feed.Goals as goal

pub returns-then-not-lengths_ok : goal.returns-then-not-lengths_ok
returns-then-not-lengths_ok c = rw c.from.ensures (sym (feed_c_wrong _ _ _ _ _ _ _ _ (sym c.lengths_ok.ensures ∙ c.if-not-lengths_ok.true)))

pub returns-then-not-switches_ok : goal.returns-then-not-switches_ok
returns-then-not-switches_ok c = rw c.from-then-not-switches_ok.ensures (sym (feed_c_switch _ _ _ _ _ _ _ _ (sym c.lengths_ok.ensures ∙ c.if-not-lengths_ok.false) (sym c.switches_ok.ensures ∙ c.if-not-switches_ok.true)))

pub returns : goal.returns
returns c = fed _ _ _ _ _ _ _ _ c.feed.result c.feed.ensures c.from-2.ensures (sym c.switches_ok.ensures ∙ c.if-not-switches_ok.false) c.from-3.ensures

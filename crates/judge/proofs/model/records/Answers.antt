-- Record after record. Assumes nothing.
use Rattle.std.proofs.Common.{◌≡◌, ◌∙◌, ◌*◌, ◌-◌, ◌/◌, ℕ, List, rules, arith, true, sym, length, take, drop, length-drop}
use Rattle.std.proofs.lemmas.List.{take_all}
use mathlib.Core.Path.{ap}
use Rattle.payload.specs.Words.{word_at}
use Rattle.decide.specs.Verdicts.{textured_verdict, triangle_of}
use Rattle.judge.specs.Judge.{held_in}
use Rattle.judge.proofs.Laws.{record_is, from_next, from_none}
use Rattle.judge.proofs.model.records.Goals as goal
use Rattle.judge.proofs.model.records.Goals.{After-record_verdict}

rest_is : (words : List ℕ) (n : ℕ) → take (length words - n) (drop n words) ≡ drop n words
rest_is words n = take_all (length words - n) (drop n words) (omega (arith, length-drop n words))

-- the record's verdict
one : (c : After-record_verdict) → let words = drop (28 * c.loop-k.k) c.args.words.now in
    c.record_verdict.result ≡ textured_verdict (triangle_of c.args.mode words) true (held_in c.args.slots (word_at words 0)) c.args.m.now
one c =
    let is = c.triangle_of-triangle.ensures ∙ ap (triangle_of c.args.mode) (rest_is c.args.words.now _) in
    rw is at (c.record_verdict.ensures ∙ record_is c.triangle_of-triangle.result c.args.slots c.args.m.now c.normal_matrix-inverse.ensures)

pub loop-k-preserved : goal.loop-k-preserved
loop-k-preserved c =
    let v = sym (one (goal.at.loop-k-preserved c).After-record_verdict) ∙ c.in_ok-record_verdict.was in
    sym (rw v at (from_next c.args.mode (held_in c.args.slots) c.args.m.now c.args.words.now (length c.args.words.now / 28) c.loop-k.k c.loop-k-test.true)) ∙ c.loop-k.invariant

pub returns-in_err-record_verdict : goal.returns-in_err-record_verdict
returns-in_err-record_verdict c =
    let v = sym (one (goal.at.returns-in_err-record_verdict c).After-record_verdict) ∙ c.in_err-record_verdict.was in
    let r = sym c.loop-k.invariant ∙ (rw v at (from_next c.args.mode (held_in c.args.slots) c.args.m.now c.args.words.now (length c.args.words.now / 28) c.loop-k.k c.loop-k-test.true)) in
    rw r (search rules)

pub returns : goal.returns
returns c = sym (from_none c.args.mode (held_in c.args.slots) c.args.m.now c.args.words.now (length c.args.words.now / 28) c.loop-k.k (omega (arith, c.loop-k-test.false))) ∙ c.loop-k.invariant

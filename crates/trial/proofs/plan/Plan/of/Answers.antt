-- An r among the operations is taken once its turn has come. Assumes nothing.
use Rattle.std.proofs.Common.{◌≡◌, ◌==◌, ◌||◌, ◌+◌, ◌<◌, ◌≤◌, ℕ, Bool, List, length, drop, refl, sym, ◌∙◌, get_or}
use Prim.Native.Nat.{suc}
use native.Mathlib.Numerals.{add-one}
use Rattle.std.proofs.Math.Bool.{or_comm, or_assoc, or-false}
use Rattle.std.proofs.Math.Seq.{drop-cons}
use Rattle.std.proofs.lemmas.List.{drop_all}
use Rattle.std.specs.List.{list_any}
use Rattle.trial.specs.declared.line.Op.{Op}
use Rattle.trial.proofs.plan.Plan.of.Goals as goal

abbrev asks : List Op → Bool
asks ops = list_any (λ (op : Op). op.letter == 114) ops

module _ (ops : List Op) (i : ℕ) (r : Bool) (inv : (r || asks (drop i ops)) ≡ asks ops) where
  next : (d : Op) {s : Bool} → i < length ops → s ≡ ((get_or ops i d).letter == 114 || r) → (s || asks (drop (i + 1) ops)) ≡ asks ops
  next d h e =
      let p = (get_or ops i d).letter == 114 in
      rw (e, add-one, or_comm p r) (or_assoc r p (asks (drop (suc i) ops)) ∙ (rw (drop-cons ops i d h) at inv))

  end : length ops ≤ i → r ≡ asks ops
  end h = sym (or-false r) ∙ (rw (drop_all i ops h) at inv)

pub loop-op-init : goal.loop-op-init
loop-op-init c = refl

pub loop-op-preserved : goal.loop-op-preserved
loop-op-preserved c = next c.args.ops.now c.loop-op.op-index _ c.loop-op.invariant _ c.loop-op-test.true c.take.ensures

pub returns-then-asked-clause-reset : goal.returns-then-asked-clause-reset
returns-then-asked-clause-reset c = end c.args.ops.now c.loop-op.op-index _ c.loop-op.invariant c.loop-op-test.false

pub returns-else-asked-clause-reset : goal.returns-else-asked-clause-reset
returns-else-asked-clause-reset c = end c.args.ops.now c.loop-op.op-index _ c.loop-op.invariant c.loop-op-test.false

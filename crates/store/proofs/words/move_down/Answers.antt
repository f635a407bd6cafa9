use Prim.Native.Nat.{◌-◌}
use mathlib.Core.Path.{◌∙◌}
use native.Mathlib.Omega.{arith}
use Rattle.laws.proofs.Paste.{down_turn}
use Rattle.store.proofs.words.move_down.Goals as goal

pub loop-done-preserved : goal.loop-done-preserved
loop-done-preserved c = let turn = c.move_word-moved in
    let args = c.args in (
      omega (arith, turn.ensures.value),
      turn.ensures.store_after
          ∙ down_turn c.loop-done.store args.store.now args.to args.from c.loop-done.done (args.end - args.from) c.loop-done.invariant.1 (omega arith) (omega arith) (omega arith),
    )

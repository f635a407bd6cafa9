-- `store::words::put_last` meets its contract: a paste of the words, and if an old end lies further, one of zeros.
use mathlib.Core.Path.{◌∙◌}
use native.Mathlib.Omega.{arith}
use Rattle.store.proofs.Over.{last_zero}
use Rattle.store.proofs.words.put_last.Goals as goal

pub returns-then-end-old : goal.returns-then-end-old
returns-then-end-old c = let args = c.args in
    let wrote = c.write_at.ensures in
    c.clear.ensures ∙ rw wrote (last_zero args.store.now args.words.now args.at args.old (omega arith) c.if-end-old.true)

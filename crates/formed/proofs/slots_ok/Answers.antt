-- `formed::slots_ok` meets its contract: it is both tests, and if the first slot is not held, there are no numbers. Assumes nothing.
use mathlib.Core.Path.{sym, ◌∙◌}
use Rattle.formed.proofs.Split.{split}
use Rattle.formed.proofs.slots_ok.Goals as goal

pub returns-else-not-slots : goal.returns-else-not-slots
returns-else-not-slots c = let args = c.args in
    let yes = sym c.laid_ok.ensures ∙ c.if-laid_ok.true in
    c.numbers_differ.ensures ∙ sym (split args.kind args.size 0 args.slots ∙ rw yes)

pub returns-else-laid_ok : goal.returns-else-laid_ok
returns-else-laid_ok c = let args = c.args in
    let no = sym c.laid_ok.ensures ∙ c.if-laid_ok.false in
    c.if-laid_ok.false ∙ sym (split args.kind args.size 0 args.slots ∙ rw no)

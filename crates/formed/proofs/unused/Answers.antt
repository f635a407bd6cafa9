-- `formed::unused` meets its contract: what `all` answers is `unused` (`Walks.antt`). Assumes nothing.
use Rattle.std.proofs.Common.{rules, sym, ◌∙◌}
use Rattle.std.proofs.lemmas.Iterator.{YieldsList-from_slice}
use Rattle.std.proofs.lemmas.Iterator.Search.{all_from_yields_List}
use Rattle.store.specs.Slots.{zero_slot}
use Rattle.formed.proofs.Walks.{unused_all}
use Rattle.formed.proofs.unused.Goals as goal

pub returns : goal.returns
returns c =
    all_from_yields_List zero_slot _ _ _ c.all.ensures.ran (YieldsList-from_slice c.args.slots.now cc) (λ x b q k. search rules)
    ∙ sym (unused_all c.args.slots.now)

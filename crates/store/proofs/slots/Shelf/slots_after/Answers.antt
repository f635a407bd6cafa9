-- `store::slots::Shelf::slots_after` meets its contract: one more slot after those of the other numbers. Assumes nothing.
use mathlib.Core.Path.{◌∙◌, ap}
use mathlib.Core.List.{List}
use lib.ListN.{set}
use native.Mathlib.Omega.{arith}
use Rattle.store.specs.Uploads.{without}
use Rattle.store.specs.Slots.{told, card_of, slot_of}
use Rattle.store.specs.declared.Slot.{Slot}
use Rattle.store.proofs.Laws.{total-without}
use Rattle.store.proofs.Walk.{slots_last}
use Rattle.store.proofs.slots.Shelf.slots_after.Goals as goal

pub overflow_cast-out : goal.overflow_cast-out
overflow_cast-out c = let args = c.args in
    omega (arith, c.others-left.ensures.count_value.1, total-without args.number (told args.self.kind args.self.slots))

pub returns : goal.returns
returns c = let args = c.args in
    let left = c.others-left in
    let card = card_of args.self.kind args.number args.width args.height in
    ap (λ (l : List Slot). set l left.result.usage.count (slot_of left.result.usage.total card)) left.ensures.slots_value
    ∙ slots_last (without args.number (told args.self.kind args.self.slots)) card left.result.usage.count left.result.usage.total left.ensures.count_value.0 left.ensures.count_value.1 (omega arith)

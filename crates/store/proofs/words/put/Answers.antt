-- `store::words::put` meets its contract: if nothing is under the number, by `put-new`, else by `spot` and `put_old`. Assumes nothing.
use Prim.Native.Nat.{◌+◌, ◌≤◌}
use mathlib.Core.Path.{◌≡◌, sym, ◌∙◌}
use mathlib.Core.List.{◌++◌}
use native.Mathlib.Omega.{arith}
use borrow.Author.Rules.{rules}
use lib.ListN.{length, take}
use Rattle.store.specs.Uploads.{total}
use Rattle.store.specs.Slots.{told, view, slot_for, over, words_after}
use Rattle.store.specs.declared.Slot.{Slot}
use Rattle.std.specs.Prelude.{Some, None}
use Rattle.store.proofs.Walk.{none-holds}
use Rattle.store.proofs.Moved.{moves_new, total-fits, put-new, put_old, Spot, spot}
use Rattle.store.proofs.words.put.Goals as goal
use Rattle.store.proofs.words.put.Goals.{After-area-size, In_default}

long : (c : After-area-size) → length c.args.shelf.slots ≡ 64
long c = search rules

fits : (c : After-area-size) → total (told c.args.shelf.kind c.args.shelf.slots) ≤ length c.args.store.now
fits c = total-fits c.args.shelf.kind c.args.shelf.slots c.args.store.now c.args.number (long c) c.requires.slots_value

-- nothing is under the number
none-at : (c : In_default) → let args = c.args in slot_for args.number args.shelf.slots ≡ None
none-at c = sym c.find.ensures ∙ c.in_default.is

new-at : (c : In_default)
    → let args = c.args in
    let others = c.used_by_others-others.result.total in
    over others (take others args.store.now ++ args.words.now) args.store.now ≡ words_after args.number args.words.now (view args.shelf.kind args.shelf.slots args.store.now) args.store.now
new-at c =
    let args = c.args in
    let used = c.used_by_others-others in
    put-new args.shelf.kind args.shelf.slots args.store.now args.number (search rules) c.requires.slots_value args.words.now used.result.total
    (none-at c) used.ensures.1

-- a slot is found
abbrev slot : After-area-size → Slot
slot c = c.in-Some.s

found : (c : After-area-size) → let args = c.args in
    slot_for args.number args.shelf.slots ≡ Some (slot c)
found c = sym c.find.ensures ∙ c.in-Some.is

spot_at : (c : After-area-size)
    → let args = c.args in
    Spot args.shelf.kind args.shelf.slots args.store.now args.number (long c) c.requires.slots_value (slot c)
spot_at c =
    let args = c.args in
    spot args.shelf.kind args.shelf.slots args.store.now args.number (long c) c.requires.slots_value (slot c) (found c)

-- the words of the others and those of the old upload are all that there are, so they fit the store
end_at : (c : After-area-size) → c.used_by_others-others.result.total + c.area-size.result
    ≤ length c.args.store.now
end_at c =
    let s = spot_at c in
    omega (arith, c.area-size.ensures, s.left, c.used_by_others-others.ensures.1, fits c)

pub returns-in_default : goal.returns-in_default
returns-in_default c = let args = c.args in
    record { store_after = c.put_last.ensures ∙ new-at (goal.at.returns-in_default c).In_default; value = sym (moves_new args.number (told args.shelf.kind args.shelf.slots) (none-holds args.shelf.kind args.number args.shelf.slots (none-at (goal.at.returns-in_default c).In_default))) }

pub move_down-moved-requires : goal.move_down-moved-requires
move_down-moved-requires c = let s = spot_at (goal.at.move_down-moved-requires c).After-area-size in
    omega (arith, end_at (goal.at.move_down-moved-requires c).After-area-size, c.area-size.ensures, c.used_by_others-others.ensures.1)

pub put_last-requires-2 : goal.put_last-requires-2
put_last-requires-2 c = omega (arith, end_at (goal.at.put_last-requires-2 c).After-area-size, c.used_by_others-others.ensures.1)

pub returns : goal.returns
returns c = let args = c.args in
    let used = c.used_by_others-others in
    let size = c.area-size in
    let move = c.move_down-moved in
    record {
      store_after = c.put_last-2.ensures
          ∙ put_old args.shelf.kind args.shelf.slots args.store.now args.number (long (goal.at.returns c).After-area-size) c.requires.slots_value args.words.now _ (slot (goal.at.returns c).After-area-size) size.result used.result.total (found (goal.at.returns c).After-area-size) size.ensures used.ensures.1 move.ensures.store_after;
      value = let s = spot_at (goal.at.returns c).After-area-size in omega (arith, move.ensures.value, size.ensures, used.ensures.1, s.left, s.later);
    }

-- `store::slots::Shelf::room_for` meets its contract: each way out by the tests that led there. Assumes nothing.
use Prim.Native.Nat.{◌+◌, ◌≤◌}
use mathlib.Core.Path.{◌≡◌, ◌∙◌}
use mathlib.Core.Bool.{false, not, ◌&&◌}
use native.Mathlib.Omega.{arith}
use borrow.Author.Rules.{rules}
use borrow.Author.Tests.{lt-ltb, le-ltb, le-leb, lt-leb}
use lib.Dec.{leb}
use lib.ListN.{length}
use Rattle.store.specs.Uploads.{without, holds, slot_count, counted}
use Rattle.store.specs.Slots.{told}
use Rattle.store.proofs.Laws.{slot_beside, total-without}
use Rattle.store.proofs.Walk.{length-told}
use Rattle.store.proofs.slots.Shelf.room_for.Goals as goal
use Rattle.store.proofs.slots.Shelf.room_for.Goals.{Else-used-ge-SLOTS, Start}

-- 64 slots say at most 64 uploads
few : (c : Start) → length (told c.args.self.kind c.args.self.slots) ≤ 64
few c =
    let long : length c.args.self.slots ≡ 64 = search rules in
    omega (arith, length-told c.args.self.kind c.args.self.slots)

-- past the first test there is a slot
has_slot : (c : Else-used-ge-SLOTS)
    → let args = c.args in
    let cs = told args.self.kind args.self.slots in
    (not (holds args.number cs) && leb slot_count (length cs)) ≡ false
has_slot c =
    let start = c.before.before.before in
    let args = start.args in
    let cs = told args.self.kind args.self.slots in
    let used = c.used_by_others-used.ensures in
    slot_beside args.number cs (few start) ∙ lt-leb slot_count (length (without args.number cs)) (omega arith)

pub returns-then-used-ge-SLOTS : goal.returns-then-used-ge-SLOTS
returns-then-used-ge-SLOTS c = let args = c.args in
    let others = without args.number (told args.self.kind args.self.slots) in
    let used = c.used_by_others-used.ensures in
    rw (slot_beside args.number (told args.self.kind args.self.slots) (few (goal.at.returns-then-used-ge-SLOTS c).Start), le-leb slot_count (length others) (omega arith))

pub overflow_add-used : goal.overflow_add-used
overflow_add-used c = let args = c.args in
    omega (arith, c.used_by_others-used.ensures.1, total-without args.number (told args.self.kind args.self.slots), c.requires)

pub returns-then-size-used : goal.returns-then-size-used
returns-then-size-used c = let args = c.args in
    let cs = told args.self.kind args.self.slots in
    let sum = c.used_by_others-used.ensures.1 in
    rw (has_slot (goal.at.returns-then-size-used c).Else-used-ge-SLOTS, lt-ltb args.size (counted args.number cs + args.words) (omega arith))

pub returns : goal.returns
returns c = let args = c.args in
    let cs = told args.self.kind args.self.slots in
    let sum = c.used_by_others-used.ensures.1 in
    rw (has_slot (goal.at.returns c).Else-used-ge-SLOTS, le-ltb args.size (counted args.number cs + args.words) (omega arith))

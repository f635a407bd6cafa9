-- When two ways of keeping uploads answer alike: for demand 3 the machine's slots and the whole history, but also any other two. Definitions only.
use Rattle.std.specs.Prelude.{ℕ, suc, ◌<◌, ◌≡◌, true, length, Ok}
use Rattle.store.specs.Slots.{area_of, sides_ok}
use Rattle.state.specs.State.{most_payload}
use Rattle.execute.specs.Commands.{Load}
use Rattle.execute.specs.Control.{Keep}

-- an upload that passed the checks of its command: sides in range, and exactly the words that they ask
pub record Passing (l : Load) : Type 0 where
  pub sides : sides_ok l.kind l.whole.wide l.whole.high ≡ true
  pub size : length l.whole.words ≡ area_of l.kind l.whole.wide l.whole.high

-- K and P answer alike on what `Rel` relates, and keep it related
pub record Alike {X Y : Type 0} (K : Keep X) (P : Keep Y) (Rel : X → Y → Type 0) : Type 0 where
  pub look_same : (x : X) (y : Y) → Rel x y → K.look x ≡ P.look y
  pub room_same : (x : X) (y : Y) (l : Load) → Rel x y → K.room x l ≡ P.room y l
  pub put-kept : (x : X) (y : Y) (l : Load) → Rel x y → Passing l → P.room y l ≡ Ok _ → Rel (K.put x l) (P.put y l)
  pub payload_same : (x : X) (y : Y) → Rel x y → K.payload x ≡ P.payload y
  pub add_kept : (w : ℕ) (x : X) (y : Y) → Rel x y → length (P.payload y) < most_payload → Rel (K.add w x) (P.add w y)
  pub add-length : (w : ℕ) (y : Y) → length (P.payload (P.add w y)) ≡ suc (length (P.payload y))
  pub clear_kept : (x : X) (y : Y) → Rel x y → Rel (K.clear x) (P.clear y)
  pub clear-length : (y : Y) → length (P.payload (P.clear y)) ≡ 0

-- The parts of a slot that rule 1.12 is about, one by one. Definitions only.
use Rattle.std.specs.Prelude.{ℕ}
use Rattle.store.specs.declared.Slot.{Slot}

-- a texture's sides
pub data Side : Type 0 where
  wide : Side
  high : Side

abbrev pub side : Side → Slot → ℕ
side wide x = x.width
side high x = x.height

-- the numbers of a slot
pub data Field : Type 0 where
  number : Field
  width : Field
  height : Field
  start : Field

abbrev pub field : Field → Slot → ℕ
field number x = x.number
field width x = x.width
field height x = x.height
field start x = x.start

-- The invariant: the rows above y are copied. Above the rows of the sprite and below them nothing changes. Assumes nothing.
use mathlib.Core.Path.{◌≡◌}
use Prim.Native.Nat.{◌*◌, ◌≤◌}
use Rattle.laws.specs.Cells.{map_range}
use Rattle.screen.specs.Plane.{width}
use Rattle.sprite.specs.Sprite.{sprite_byte}
use Rattle.sprite.proofs.draw.draw_rows.Given as goal

abbrev pub invariant-loop-y : goal.invariant-loop-y
invariant-loop-y l = (l.y ≤ l.rows.end) × (l.plane ≡ map_range (sprite_byte l.cut.sprite l.cut.texels.now) 0 (l.y * width * 4) l.initial.plane)

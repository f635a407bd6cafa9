-- The invariant: the row is copied up to x. Before the columns of the sprite and behind them nothing changes. Assumes nothing.
use mathlib.Core.Path.{◌≡◌}
use Prim.Native.Nat.{◌+◌, ◌*◌, ◌≤◌}
use Rattle.laws.specs.Cells.{map_range}
use Rattle.screen.specs.Plane.{width}
use Rattle.sprite.specs.Sprite.{sprite_byte}
use Rattle.sprite.proofs.draw.draw_row.Given as goal

abbrev pub invariant-loop-x : goal.invariant-loop-x
invariant-loop-x l = (l.x ≤ l.columns.end) × (l.plane ≡ map_range (sprite_byte l.cut.sprite l.cut.texels.now) (l.y * width * 4) ((l.y * width + l.x) * 4) l.initial.plane)

-- What a row keeps of a triangle's edges, so that a pixel works out one product for each. Assumes nothing.
use Rattle.std.specs.Prelude.{ℕ, ◌+◌, ◌*◌, ℤ, pos, ◌+ℤ◌, ◌-ℤ◌, ◌*ℤ◌}
use Rattle.laws.specs.Within.{Within}
use Rattle.screen.specs.Plane.{height}
use Rattle.flat.specs.declared.tri.Tri.{Tri}
use Rattle.flat.specs.declared.edge.Line.{Line}
use Rattle.flat.specs.declared.edge.Edges.{Edges}
use Rattle.flat.specs.Edge.{reach, span}

unfoldable pub line_of : ℤ → ℤ → ℤ → ℤ → ℤ → Line
line_of ax ay bx by py = record { rise = by -ℤ ay; base = (by -ℤ ay) *ℤ ax +ℤ (py -ℤ ay) *ℤ (bx -ℤ ax) }

unfoldable pub on_line : Line → ℤ → ℤ
on_line l px = px *ℤ l.rise -ℤ l.base

-- the edges of row y, each named after the corner that it faces
unfoldable pub edges_of : Tri → ℕ → Edges
edges_of t y =
    record {
      w0 = line_of t.p1.x t.p1.y t.p2.x t.p2.y (pos y);
      w1 = line_of t.p2.x t.p2.y t.p0.x t.p0.y (pos y);
      w2 = line_of t.p0.x t.p0.y t.p1.x t.p1.y (pos y);
    }

-- the line of an edge whose ends are in reach
pub record InRow (l : Line) : Type 0 where
  pub in_rise : Within span l.rise
  pub in_base : Within (span * reach + (height + reach) * span) l.base

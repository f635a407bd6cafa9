-- What a row keeps of the edges. Definitions only.
use Rattle.std.specs.Prelude.{ℕ, Float}
use Rattle.vector.specs.Three.{◌⊖◌, ◌·◌}
use Rattle.face.specs.declared.Point.{Point}
use Rattle.face.specs.declared.Face.{Face}
use Rattle.face.specs.declared.Line.{Line}
use Rattle.face.specs.declared.Edges.{Edges}
use Rattle.face.specs.Pixel.{centre_of}

-- what a row keeps of the edge from a to b: the parts that no column changes, at the height py
abbrev pub line_of : Point → Point → Float → Line
line_of a b py = record { x = a.x; rise = b.y ⊖ a.y; base = (py ⊖ a.y) · (b.x ⊖ a.x) }

-- the same operations on the same values as `edge`, so the same bits
abbrev pub on_line : Line → Float → Float
on_line l px = (px ⊖ l.x) · l.rise ⊖ l.base

unfoldable pub edges_of : Face → ℕ → Edges
edges_of f y = record { w0 = line_of f.b f.c (centre_of y); w1 = line_of f.c f.a (centre_of y); w2 = line_of f.a f.b (centre_of y) }

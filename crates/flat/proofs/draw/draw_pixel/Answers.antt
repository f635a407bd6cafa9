-- Each edge along the row is the edge at the pixel; the first that is negative leaves the pixel uncovered. Assumes nothing.
use mathlib.Core.Path.{◌≡◌, refl, ap, ◌∙◌}
use Prim.Native.Nat.{ℕ, ◌<◌}
use lib.IntN.{ℤ, pos}
use mir.Syntax.{w64}
use mir.Val.{to_z, of_z}
use Rattle.laws.proofs.Bound as B
use Rattle.screen.specs.Plane.{width, height}
use Rattle.flat.specs.declared.edge.Edges.{Edges}
use Rattle.flat.specs.declared.tri.Tri.{Tri}
use Rattle.flat.specs.Row.{on_line, edges_of}
use Rattle.flat.specs.Tri.{Placed, area_of, weight0, weight1, weight2, covers}
use Rattle.flat.proofs.Cell.{drawn_miss}
use Rattle.flat.proofs.Fits.{row0, row1, row2, at0, at1, at2, within0, within1, within2, read_as}
use Rattle.flat.proofs.Signs.{inside_yes, inside_no0, inside_no1, inside_no2}
use Rattle.flat.proofs.draw.draw_pixel.Goals as goal

-- ---- the edges, as they were answered, are read back as those at the pixel
module _ {t : Tri} (p : Placed t) {e : Edges} {x y : ℕ} (hx : x < width) (hy : y < height) (is : e ≡ edges_of t y) {w : ℤ} where
  read0 : w ≡ on_line e.w0 (pos x) → to_z w64 (of_z w64 w) ≡ weight0 t x y
  read0 h = read_as (B.fits tt (within0 p y hy x hx)) (h ∙ ap (λ (l : Edges). on_line l.w0 (pos x)) is ∙ at0 t x y)

  read1 : w ≡ on_line e.w1 (pos x) → to_z w64 (of_z w64 w) ≡ weight1 t x y
  read1 h = read_as (B.fits tt (within1 p y hy x hx)) (h ∙ ap (λ (l : Edges). on_line l.w1 (pos x)) is ∙ at1 t x y)

  read2 : w ≡ on_line e.w2 (pos x) → to_z w64 (of_z w64 w) ≡ weight2 t x y
  read2 h = read_as (B.fits tt (within2 p y hy x hx)) (h ∙ ap (λ (l : Edges). on_line l.w2 (pos x)) is ∙ at2 t x y)

pub at_column-w0-requires-clause-in_row : goal.at_column-w0-requires-clause-in_row
at_column-w0-requires-clause-in_row c = rw c.requires.edges_value (row0 c.args.s.placed c.args.y c.requires.x_lt_width.1)

pub at_column-w1-requires-clause-in_row : goal.at_column-w1-requires-clause-in_row
at_column-w1-requires-clause-in_row c = rw c.requires.edges_value (row1 c.args.s.placed c.args.y c.requires.x_lt_width.1)

pub at_column-w2-requires-clause-in_row : goal.at_column-w2-requires-clause-in_row
at_column-w2-requires-clause-in_row c = rw c.requires.edges_value (row2 c.args.s.placed c.args.y c.requires.x_lt_width.1)

pub cover-requires-clause-y_value : goal.cover-requires-clause-y_value
unfolding covers
cover-requires-clause-y_value c = let s = c.args.s in
    let r = c.requires in
    let e0 = read0 s.placed r.x_lt_width.0 r.x_lt_width.1 r.edges_value c.at_column-w0.ensures in
    let e1 = read1 s.placed r.x_lt_width.0 r.x_lt_width.1 r.edges_value c.at_column-w1.ensures in
    let e2 = read2 s.placed r.x_lt_width.0 r.x_lt_width.1 r.edges_value c.at_column-w2.ensures in
    inside_yes (area_of s.tri) _ _ _ s.upward (rw e0 at c.if-w0-ge0.true) (rw e1 at c.if-w1-ge0.true) (rw e2 at c.if-w2-ge0.true)

pub cover-requires-clause-w_value : goal.cover-requires-clause-w_value
cover-requires-clause-w_value c = let s = c.args.s in
    let r = c.requires in
    rw (
      read0 s.placed r.x_lt_width.0 r.x_lt_width.1 r.edges_value c.at_column-w0.ensures,
      read1 s.placed r.x_lt_width.0 r.x_lt_width.1 r.edges_value c.at_column-w1.ensures,
      read2 s.placed r.x_lt_width.0 r.x_lt_width.1 r.edges_value c.at_column-w2.ensures,
    )

pub returns-else-w2-ge0 : goal.returns-else-w2-ge0
unfolding covers
returns-else-w2-ge0 c = let s = c.args.s in
    let r = c.requires in
    let e0 = read0 s.placed r.x_lt_width.0 r.x_lt_width.1 r.edges_value c.at_column-w0.ensures in
    let e1 = read1 s.placed r.x_lt_width.0 r.x_lt_width.1 r.edges_value c.at_column-w1.ensures in
    let e2 = read2 s.placed r.x_lt_width.0 r.x_lt_width.1 r.edges_value c.at_column-w2.ensures in
    drawn_miss s.tri c.args.x c.args.y _ _ _ r.x_lt_width.0 refl
    (inside_no2 (area_of s.tri) _ _ _ s.upward (rw e0 at c.if-w0-ge0.true) (rw e1 at c.if-w1-ge0.true) (rw e2 at c.if-w2-ge0.false))

pub returns-else-w1-ge0 : goal.returns-else-w1-ge0
unfolding covers
returns-else-w1-ge0 c = let s = c.args.s in
    let r = c.requires in
    let e0 = read0 s.placed r.x_lt_width.0 r.x_lt_width.1 r.edges_value c.at_column-w0.ensures in
    let e1 = read1 s.placed r.x_lt_width.0 r.x_lt_width.1 r.edges_value c.at_column-w1.ensures in
    drawn_miss s.tri c.args.x c.args.y _ _ _ r.x_lt_width.0 refl
    (inside_no1 (area_of s.tri) _ _ _ s.upward (rw e0 at c.if-w0-ge0.true) (rw e1 at c.if-w1-ge0.false))

pub returns-else-w0-ge0 : goal.returns-else-w0-ge0
unfolding covers
returns-else-w0-ge0 c = let s = c.args.s in
    let r = c.requires in
    let e0 = read0 s.placed r.x_lt_width.0 r.x_lt_width.1 r.edges_value c.at_column-w0.ensures in
    drawn_miss s.tri c.args.x c.args.y _ _ _ r.x_lt_width.0 refl
    (inside_no0 (area_of s.tri) _ _ _ s.upward (rw e0 at c.if-w0-ge0.false))

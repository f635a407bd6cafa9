-- Each edge along the row is the edge at the pixel, and the pixel is covered if it is inside them. Assumes nothing.
use Rattle.std.proofs.Common.{◌≡◌, ◌+◌, ◌*◌, refl}
use Rattle.screen.specs.Plane.{width}
use Rattle.face.specs.Pixel.{weight0, weight1, weight2}
use Rattle.face.proofs.Lines.{along0, along1, along2, covered}
use Rattle.raster.proofs.Cell.{drawn_out}
use Rattle.raster.proofs.rows.draw_pixel.Goals as goal
use Rattle.raster.proofs.rows.draw_pixel.Goals.{After-at_column-w2}

is0 : (w : After-at_column-w2) → w.at_column-w0.result ≡ weight0 w.args.f w.args.x w.args.y
is0 w = along0 w.args.f w.args.x w.args.y w.requires.edges_value w.centre-px.ensures w.at_column-w0.ensures

is1 : (w : After-at_column-w2) → w.at_column-w1.result ≡ weight1 w.args.f w.args.x w.args.y
is1 w = along1 w.args.f w.args.x w.args.y w.requires.edges_value w.centre-px.ensures w.at_column-w1.ensures

is2 : (w : After-at_column-w2) → w.at_column-w2.result ≡ weight2 w.args.f w.args.x w.args.y
is2 w = along2 w.args.f w.args.x w.args.y w.requires.edges_value w.centre-px.ensures w.at_column-w2.ensures

pub cover-requires : goal.cover-requires
cover-requires c = record { ready = c.requires.ready; inside = c.requires.inside; y_value = let w = (goal.at.cover-requires c).After-at_column-w2 in covered c.args.f c.args.x c.args.y (is0 w) (is1 w) (is2 w) c.inside.ensures c.if-inside.true; w0_value = (is0 (goal.at.cover-requires c).After-at_column-w2, is1 (goal.at.cover-requires c).After-at_column-w2, is2 (goal.at.cover-requires c).After-at_column-w2) }

pub returns-else-inside : goal.returns-else-inside
returns-else-inside c = drawn_out c.args.texels.now c.args.ink c.args.f c.args.x c.args.y (c.args.y * width + c.args.x) c.args.depth.now c.args.plane.now c.requires.inside.in_x refl (let w = (goal.at.returns-else-inside c).After-at_column-w2 in covered c.args.f c.args.x c.args.y (is0 w) (is1 w) (is2 w) c.inside.ensures c.if-inside.false)

-- Two outcomes that satisfy the contract of a rasteriser are one: every depth and every byte is fixed. Assumes nothing.
use Rattle.std.proofs.Common.{sym, refl, ◌∙◌}
use Rattle.laws.specs.Determines.{Determines}
use Rattle.raster.proofs.rasterize_transformed_triangle.Kinds as transformed
use Rattle.raster.proofs.rasterize_transformed_triangle.Reads as transformed-reads
use Rattle.raster.proofs.rasterize_textured_triangle.Kinds as textured
use Rattle.raster.proofs.rasterize_textured_triangle.Reads as textured-reads

pub transformed_only : Determines 2 transformed.ps transformed.r transformed-reads.Learnt
transformed_only κs a x y ws vs (d, p) (e, q) = (refl, λ i. ((p ∙ sym q) i, ((d ∙ sym e) i, ws.1.1)))

pub textured_only : Determines 3 textured.ps textured.r textured-reads.Learnt
textured_only κs a x y ws vs (d, p) (e, q) = (refl, λ i. ((p ∙ sym q) i, ((d ∙ sym e) i, ws.1.1)))

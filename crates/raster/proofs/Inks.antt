-- The inks of both rasterisers have their texture, if they have one, in the words that are lent. Assumes nothing.
use Rattle.std.proofs.Common.{ℕ, List}
use Rattle.std.specs.Prelude.{Option, Some, None}
use Rattle.clip.specs.declared.vertex.ClipVertex.{ClipVertex}
use Rattle.raster.specs.declared.ink.Color.{Color}
use Rattle.raster.specs.Ink.{Texture, Stored, sampler_of}
use Rattle.raster.specs.Triangles.{transformed_ink, textured_ink}

pub stored_transformed : (tri : List ClipVertex) (f : Option Color) (n : ℕ) → Stored (transformed_ink tri f) n
unfolding transformed_ink
stored_transformed tri (Some c) n = tt
stored_transformed tri None n = tt

pub stored_textured : (tri : List ClipVertex) (width height mode : ℕ) (c : Color) (n : ℕ) → Texture width height n → Stored (textured_ink tri width height mode c) n
unfolding textured_ink sampler_of
stored_textured tri width height mode c n t = t

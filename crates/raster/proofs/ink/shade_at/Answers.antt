-- Ink by ink. Assumes nothing.
use Rattle.std.proofs.Common.{◌∙◌}
use Rattle.texel.specs.Texel.{texel_at}
use Rattle.raster.specs.Ink.{shade_of, texel_of}
use Rattle.raster.proofs.Nibbles.{nibbles_back}
use Rattle.raster.proofs.ink.shade_at.Goals as goal

pub texel-requires : goal.texel-requires
texel-requires c = rw c.in-Textured.is at c.requires

-- a texel is nibbles, and these come back from floats
pub toned-requires : goal.toned-requires
unfolding texel_of texel_at
toned-requires c = rw c.texel.ensures (nibbles_back _)

pub returns-in-Flat : goal.returns-in-Flat
unfolding shade_of
returns-in-Flat c = rw c.in-Flat.is

pub returns-in-Blend : goal.returns-in-Blend
unfolding shade_of
returns-in-Blend c = c.blended.ensures ∙ rw c.in-Blend.is

pub returns-in-Textured : goal.returns-in-Textured
unfolding shade_of
returns-in-Textured c = rw (c.in-Textured.is, c.toned.ensures, c.texel.ensures)

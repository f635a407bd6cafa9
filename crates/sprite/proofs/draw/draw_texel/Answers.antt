-- By the texel's alpha. Assumes nothing.
use mathlib.Core.Path.{◌≡◌, ap, ◌∙◌}
use Rattle.texel.specs.Texel.{half_of, nibbles_of, texel_at}
use Rattle.sprite.specs.Sprite.{place_of}
use Rattle.sprite.proofs.Tones.{alpha_none, alpha_some}
use Rattle.sprite.proofs.Rows.{in_texture, pixel_stays, pixel_painted}
use Rattle.sprite.proofs.draw.draw_texel.Goals as goal
use Rattle.sprite.proofs.draw.draw_texel.Goals.{After-half-texel}

-- the texel is the one that belongs there
is_texel : (c : After-half-texel) → nibbles_of c.half-texel.result ≡ texel_at c.args.cut.texels.now (place_of c.args.cut.sprite c.args.x c.args.y)
unfolding texel_at
is_texel c =
    ap nibbles_of (c.half-texel.ensures.0 ∙ ap (half_of c.args.cut.texels.now) c.requires.n_value)

pub half-texel-requires : goal.half-texel-requires
half-texel-requires c = rw c.requires.n_value (in_texture c.args.cut.sprite c.args.cut.placed c.args.x c.args.y c.requires.at_pixel.under_x c.requires.at_pixel.under_y)

pub write_texel-requires : goal.write_texel-requires
write_texel-requires c = record { x_lt_width = (c.requires.at_pixel.in_row, c.requires.at_pixel.on_screen); texel_bound = c.half-texel.ensures.1 }

pub returns-then-texel-ne0 : goal.returns-then-texel-ne0
returns-then-texel-ne0 c = pixel_painted _ _ _ _ c.requires.at_pixel _ (is_texel (goal.at.returns-then-texel-ne0 c).After-half-texel) _ (alpha_some c.half-texel.result c.if-texel-ne0.true) c.write_texel.ensures

pub returns-else-texel-ne0 : goal.returns-else-texel-ne0
returns-else-texel-ne0 c = pixel_stays _ _ _ _ c.requires.at_pixel _ (is_texel (goal.at.returns-else-texel-ne0 c).After-half-texel) _ (alpha_none c.half-texel.result c.if-texel-ne0.false)

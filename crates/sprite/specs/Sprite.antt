-- What a sprite does to each byte of the plane: rules 11.4 to 11.6. No depth is read or written, so there is none here. Definitions only.
use Rattle.std.specs.Prelude.{Bool, cond, ◌&&◌, List, ℕ, ◌+◌, ◌*◌, ◌/◌, ◌%◌, eqb, ltb, ℤ, pos, nat_abs, ◌-ℤ◌}
use Rattle.std.specs.Int.Signed.{le_z}
use Rattle.laws.specs.Cells.{map_at}
use Rattle.screen.specs.Plane.{width, paint}
use Rattle.screen.specs.declared.plane.Rgba.{Rgba}
use Rattle.texel.specs.Texel.{texel_at}
use Rattle.sprite.specs.declared.words.Sprite.{Sprite}

-- rule 11.4: how far the column x is from the column `at`, in which the sprite begins; and is x one of its n columns? The same for rows
unfoldable pub offset : ℤ → ℕ → ℕ
offset at x = nat_abs (pos x -ℤ at)

unfoldable pub under : ℤ → ℕ → ℕ → Bool
under at n x = le_z at (pos x) && ltb (offset at x) n

-- is the pixel (x, y) under the rectangle?
unfoldable pub covers : Sprite → ℕ → ℕ → Bool
covers s x y = under s.x s.width x && under s.y s.height y

-- rule 11.4: the texel that belongs there, as far into the rectangle as the pixel is
unfoldable pub place_of : Sprite → ℕ → ℕ → ℕ
place_of s x y = (s.source_y + offset s.y y) * s.stride + (s.source_x + offset s.x x)

-- rules 11.5 and 6.4: a texel over byte j of the plane. With alpha 0 the byte stays; else it is painted, dithered by its own pixel's place
unfoldable pub over : Rgba → ℕ → ℕ → ℕ
over c j old = cond (eqb c.a 0) old (paint c j old)

-- rule 11.6: byte j of the plane afterwards
unfoldable pub sprite_byte : Sprite → List ℕ → ℕ → ℕ → ℕ
sprite_byte s texels j old =
    let x = j / 4 % width in
    let y = j / 4 / width in
    cond (covers s x y) (over (texel_at texels (place_of s x y)) j old) old

-- the plane after the sprite, if the texture has these words
unfoldable pub sprite_plane : Sprite → List ℕ → List ℕ → List ℕ
sprite_plane s texels P = map_at (sprite_byte s texels) P

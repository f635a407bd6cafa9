-- A texel out of a texture's words. Definitions only.
use Rattle.std.specs.Prelude.{cond, List, ℕ, ◌*◌, ◌/◌, ◌%◌, eqb, get_or}
use Rattle.screen.specs.declared.plane.Rgba.{Rgba}

-- rule 5.13: the sixteen bits of texel n, out of the words as received, the high half first
unfoldable pub half_of : List ℕ → ℕ → ℕ
half_of texels n = cond (eqb (n % 2) 0) (get_or texels (n / 2) 0 / 65536) (get_or texels (n / 2) 0 % 65536)

-- rule 5.13: four digits of 4 bits, each times 17
unfoldable pub nibbles_of : ℕ → Rgba
nibbles_of t = record { r = t / 4096 % 16 * 17; g = t / 256 % 16 * 17; b = t / 16 % 16 * 17; a = t % 16 * 17 }

-- `data[ti + ch]`: texel n, counted row by row
unfoldable pub texel_at : List ℕ → ℕ → Rgba
texel_at texels n = nibbles_of (half_of texels n)

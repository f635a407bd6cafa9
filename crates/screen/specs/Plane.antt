-- The plane: byte j belongs to the pixel j / 4, which is at (j / 4 mod 320, j / 4 / 320), and is its channel j mod 4.
-- Rules 1.1, 1.6 and 1.7; `write_pixel` and `pixel` of the original. Assumes nothing.
use Rattle.std.specs.Prelude.{ℕ, zero, suc, ◌+◌, ◌-◌, ◌*◌, ◌/◌, ◌%◌, cond, ◌&&◌, List, [], ◌∷◌, eqb, ltb, length, get_or, Result, Ok, Err}
use Rattle.screen.specs.Dither.{threshold_at, dither_of}
use Rattle.screen.specs.declared.plane.Rgba.{Rgba}
use Rattle.screen.specs.declared.plane.WrongLength.{WrongLength}

-- rule 1.1
abbrev pub width : ℕ
width = 320

abbrev pub height : ℕ
height = 240

abbrev pub row_bytes : ℕ
row_bytes = 1280

-- rules 1.1 and 1.4
abbrev pub plane_bytes : ℕ
plane_bytes = 307200

-- rule 6.4: what a colour shows in a channel of a pixel that has the threshold t
abbrev pub channel : Rgba → ℕ → ℕ → ℕ
channel c t zero = dither_of c.r t
channel c t (suc zero) = dither_of c.g t
channel c t (suc (suc zero)) = dither_of c.b t
channel c t (suc (suc (suc k))) = c.a

-- what a colour shows at byte j of the plane
unfoldable pub shown : Rgba → ℕ → ℕ
shown c j = channel c (threshold_at (j / 4 % width) (j / 4 / width)) (j % 4)

-- byte j of the plane, painted
unfoldable pub paint : Rgba → ℕ → ℕ → ℕ
paint c j old = shown c j

-- The answer to reading a pixel: its number, and four bytes
pub record Answered : Type 0 where
  pub number : ℕ
  pub bytes : List ℕ

abbrev pub nothing : List ℕ
nothing = 0 ∷ 0 ∷ 0 ∷ 0 ∷ []

-- the number and the values of each case
abbrev pub answered : Result Rgba WrongLength → Answered
answered (Ok c) = record { number = 0; bytes = c.r ∷ c.g ∷ c.b ∷ c.a ∷ [] }
answered (Err e) = record { number = 1; bytes = nothing }

-- rule 1.7: the four bytes of the pixel at (x, y), and four zeros off the screen
abbrev pub four_from : List ℕ → ℕ → List ℕ
four_from plane j = get_or plane j 0 ∷ get_or plane (j + 1) 0 ∷ get_or plane (j + 2) 0 ∷ get_or plane (j + 3) 0 ∷ []

abbrev pub colour_at : List ℕ → ℕ → ℕ → List ℕ
colour_at plane x y = cond (ltb x width && ltb y height) (four_from plane ((y * width + x) * 4)) nothing

-- if the length is wrong, the answer is 1 with four zeros
unfoldable pub pixel_of : List ℕ → ℕ → ℕ → Answered
pixel_of plane x y =
    cond (eqb (length plane) plane_bytes) (record { number = 0; bytes = colour_at plane x y }) (record { number = 1; bytes = nothing })

-- byte j, from `start` on, of a pattern that repeats the `size` bytes of xs before `start`
unfoldable pub echo : List ℕ → ℕ → ℕ → ℕ → ℕ → ℕ
echo xs size start j old = get_or xs (start - size + (j - start) % size) 0

-- Dither: what a channel of a colour becomes on the screen. Assumes nothing.
use Rattle.std.specs.Prelude.{ℕ, ◌+◌, ◌*◌, ◌/◌, ◌%◌, cond, List, [], ◌∷◌, ltb, get_or}

-- rule 6.1: the sixteen thresholds, a row of four for each y mod 4
abbrev pub bayer : List ℕ
bayer = 0 ∷ 8 ∷ 2 ∷ 10 ∷ 12 ∷ 4 ∷ 14 ∷ 6 ∷ 3 ∷ 11 ∷ 1 ∷ 9 ∷ 15 ∷ 7 ∷ 13 ∷ 5 ∷ []

-- rule 6.1: the one at (x, y). The original's table is indexed by y first
abbrev pub threshold_at : ℕ → ℕ → ℕ
threshold_at x y = get_or bayer (y % 4 * 4 + x % 4) 0

-- rule 6.2
unfoldable pub level_of : ℕ → ℕ → ℕ
level_of c t = c * 31 / 255 + cond (ltb ((t * 2 + 1) * 255) (c * 31 % 255 * 32)) 1 0

-- rule 6.3
unfoldable pub dither_of : ℕ → ℕ → ℕ
dither_of c t = (level_of c t * 255 + 15) / 31

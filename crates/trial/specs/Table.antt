-- What the contracts of the table's text cite.
use Rattle.std.specs.Prelude.{ℕ, Bool, true, List, [], ◌∷◌, length, position, ◌==◌, ◌&&◌, not}
use Rattle.std.specs.Option.{unwrap_or}

-- The place of the first b, or the length if there is none.
abbrev pub end_of : ℕ → List ℕ → ℕ
end_of b text = unwrap_or (position (λ x. x == b) text) (length text)

-- Neither a line end nor a hash begins it.
abbrev pub is_line : List ℕ → Bool
is_line [] = true
is_line (b ∷ text) = not (b == 10) && not (b == 35)

-- Matrices of four by four, row by row; the machine's three are in one list of 48. The original's `identity_matrix`, `transform_matrix` and
-- `multiply_matrix`. Definitions only.
use Rattle.std.specs.Prelude.{ℕ, ◌+◌, List, [], ◌∷◌, ◌++◌, Float}
use Rattle.ieee.specs.Units.{zero32, one32}
use Rattle.vector.specs.Three.{at, ◌·◌, ◌⊕◌}
use Rattle.vector.specs.declared.matrix.Matrix.{Matrix}

abbrev pub identity : Matrix
identity = record {
  cells = one32 ∷ zero32 ∷ zero32 ∷ zero32
      ∷ zero32 ∷ one32 ∷ zero32 ∷ zero32
      ∷ zero32 ∷ zero32 ∷ one32 ∷ zero32
      ∷ zero32 ∷ zero32 ∷ zero32 ∷ one32 ∷ [];
}

-- the row that begins at cell p of m, times v
abbrev pub row_of : List Float → ℕ → List Float → Float
row_of m p v = at m p · at v 0 ⊕ at m (p + 1) · at v 1 ⊕ at m (p + 2) · at v 2 ⊕ at m (p + 3) · at v 3

-- rule 5.2, `transform_matrix`: the matrix that begins at cell p of m, times v
abbrev pub transform_of : List Float → ℕ → List Float → List Float
transform_of m p v = row_of m p v ∷ row_of m (p + 4) v ∷ row_of m (p + 8) v ∷ row_of m (p + 12) v ∷ []

-- the row that begins at cell p, times the column that begins at cell q
abbrev pub cell_of : List Float → ℕ → ℕ → Float
cell_of m p q = at m p · at m q ⊕ at m (p + 1) · at m (q + 4) ⊕ at m (p + 2) · at m (q + 8) ⊕ at m (p + 3) · at m (q + 12)

abbrev pub cross_of : List Float → ℕ → ℕ → List Float
cross_of m p q = cell_of m p q ∷ cell_of m p (q + 1) ∷ cell_of m p (q + 2) ∷ cell_of m p (q + 3) ∷ []

-- `multiply_matrix`: the matrix that begins at cell p, times the one that begins at cell q
abbrev pub multiply_of : List Float → ℕ → ℕ → Matrix
multiply_of m p q = record { cells = cross_of m p q ++ (cross_of m (p + 4) q ++ (cross_of m (p + 8) q ++ cross_of m (p + 12) q)) }

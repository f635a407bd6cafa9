-- The normal matrix. The original's `inverse_transpose_3x3` and `apply_normal_matrix`, with the source's letters. Definitions only.
use Rattle.std.specs.Prelude.{cond, not, ◌&&◌, List, [], ◌∷◌, Option, Some, None, Float}
use Rattle.std.specs.Float.Ieee.Scale.{finite}
use Rattle.ieee.specs.Units.{one32}
use Rattle.ieee.specs.Range.{tiny_of}
use Rattle.vector.specs.Three.{at, ◌⊕◌, ◌⊖◌, ◌·◌, ◌⊘◌, dot_of}
use Rattle.vector.specs.declared.matrix.Matrix.{Matrix}
use Rattle.vector.specs.declared.normal.Matrix3.{Matrix3}

-- the three by three corner of a matrix
abbrev pub corner_of : Matrix → Matrix3
corner_of m =
    let n = m.cells in
    record { a = at n 0; b = at n 1; c = at n 2; d = at n 4; e = at n 5; f = at n 6; g = at n 8; h = at n 9; i = at n 10 }

abbrev pub minor_of : Float → Float → Float → Float → Float
minor_of p q r s = p · q ⊖ r · s

-- a (ei - fh) - b (di - fg) + c (dh - eg)
abbrev pub det_of : Matrix3 → Float
det_of m = m.a · minor_of m.e m.i m.f m.h ⊖ m.b · minor_of m.d m.i m.f m.g ⊕ m.c · minor_of m.d m.h m.e m.g

-- the inverse column by column, which is its transpose row by row; inv is 1 / det
abbrev pub cofactors_of : Matrix3 → Float → Matrix3
cofactors_of m inv = record {
  a = minor_of m.e m.i m.f m.h · inv;
  b = minor_of m.f m.g m.d m.i · inv;
  c = minor_of m.d m.h m.e m.g · inv;
  d = minor_of m.c m.h m.b m.i · inv;
  e = minor_of m.a m.i m.c m.g · inv;
  f = minor_of m.b m.g m.a m.h · inv;
  g = minor_of m.b m.f m.c m.e · inv;
  h = minor_of m.c m.d m.a m.f · inv;
  i = minor_of m.a m.e m.b m.d · inv;
}

-- rule 5.3: none if the determinant is not finite or at most 2^-23 in size
unfoldable pub inverse_by : Float → Matrix3 → Option Matrix3
inverse_by det m = cond (finite det && not (tiny_of det)) (Some (cofactors_of m (one32 ⊘ det))) None

-- `inverse_transpose_3x3`
abbrev pub inverse_transpose_of : Matrix → Option Matrix3
inverse_transpose_of matrix = inverse_by (det_of (corner_of matrix)) (corner_of matrix)

-- `apply_normal_matrix`: each row times the normal
abbrev pub apply_of : Matrix3 → List Float → List Float
apply_of m n =
    dot_of (m.a ∷ m.b ∷ m.c ∷ []) n ∷ dot_of (m.d ∷ m.e ∷ m.f ∷ []) n ∷ dot_of (m.g ∷ m.h ∷ m.i ∷ []) n ∷ []

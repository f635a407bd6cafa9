-- What the float draws' checks do that a reader may not expect, as docs/DIFFERENCES.md lists it. The commands are
--     14  transformed_verdict p false        18  textured_verdict p false
--     16  transformed_verdict p true         19  textured_verdict p true
-- Assumes nothing.
use Prim.Native.Nat.{ℕ, ◌+◌, ◌<◌, ◌≤◌}
use native.Mathlib.Omega.{arith}
use mathlib.Core.Path.{◌≡◌, refl, ap}
use mathlib.Core.Bool.{Bool, true, false}
use mathlib.Core.List.{List, ◌++◌}
use lib.Ieee.{Float}
use borrow.Author.Tests.{lt-leb}
use Rattle.vector.specs.Three.{at}
use Rattle.vector.specs.Matrices.{cell_of, cross_of, multiply_of}
use Rattle.vector.specs.Normals.{inverse_transpose_of}
use Rattle.vector.specs.declared.matrix.Matrix.{Matrix}
use Rattle.std.specs.Prelude.{Some, None}
use Rattle.vector.specs.declared.normal.Matrix3.{Matrix3}
use Rattle.clip.specs.declared.vertex.ClipVertex.{ClipVertex}
use Rattle.verdict.specs.declared.Reason.{Reason}
use Rattle.verdict.specs.declared.Reason.TheVariants.{OutOfRange, NotFinite, NotInvertible}
use Rattle.verdict.specs.Verdict.{done, refused}
use Rattle.payload.specs.Words.{word_at, at_most}
use Rattle.decide.specs.Corners.{corner, normal_matrix_of, first_of}
use Rattle.decide.specs.Verdicts.{finite4, inputs_of, invertible_of, transformed_by, transformed_verdict, plain_vertex, plain_of, textured_by, checked_verdict, textured_verdict}

-- the model-view is made of the first 32 cells
joined : {a a' b b' c c' d d' : List Float} → a ≡ a' → b ≡ b' → c ≡ c' → d ≡ d' → a ++ (b ++ (c ++ d)) ≡ a' ++ (b' ++ (c' ++ d'))
joined p q r s = rw (p, q, r, s)

module _ (m m' : List Float) (same : (i : ℕ) → i < 32 → at m i ≡ at m' i) where
  cell_same : (p q : ℕ) → p + 3 < 32 → q + 12 < 32 → cell_of m p q ≡ cell_of m' p q
  cell_same p q h k =
      let row : (i : ℕ) → i ≤ 3 → at m (p + i) ≡ at m' (p + i) = λ i l. same (p + i) (omega arith) in
      let column : (i : ℕ) → i ≤ 12 → at m (q + i) ≡ at m' (q + i) = λ i l. same (q + i) (omega arith) in
      rw (same p (omega arith), row 1 (omega arith), row 2 (omega arith), row 3 (omega arith), same q (omega arith), column 4 (omega arith), column 8 (omega arith), column 12 (omega arith))

  cross_same : (p : ℕ) → p + 3 < 32 → cross_of m p 0 ≡ cross_of m' p 0
  cross_same p h = rw (cell_same p 0 h (omega arith), cell_same p 1 h (omega arith), cell_same p 2 h (omega arith), cell_same p 3 h (omega arith))

  product_same : multiply_of m 16 0 ≡ multiply_of m' 16 0
  product_same =
      let of : List Float → Matrix = λ l. record { cells = l } in
      ap of (joined (cross_same 16 (omega arith)) (cross_same 20 (omega arith)) (cross_same 24 (omega arith)) (cross_same 28 (omega arith)))

  inverse_same : normal_matrix_of m true ≡ normal_matrix_of m' true
  unfolding normal_matrix_of
  inverse_same = ap inverse_transpose_of product_same

module _ (p : List ℕ) (m : List Float) where
  -- 19 is done if the words are finite and the model-view can be inverted, and nothing is asked of the transformed positions
  pub overflow_passes : {matrix : Matrix3} → at_most p 1 2 ≡ done → inputs_of p true true ≡ done → normal_matrix_of m true ≡ Some matrix → textured_verdict p true true m ≡ done
  unfolding textured_verdict checked_verdict textured_by
  overflow_passes range finite inverse = rw (range, inverse, finite)

  -- so the projection, which comes after the first 32 cells, does not bear on it
  pub projection_unseen : (held : Bool) (m' : List Float) → ((i : ℕ) → i < 32 → at m i ≡ at m' i) → textured_verdict p true held m ≡ textured_verdict p true held m'
  unfolding textured_verdict checked_verdict textured_by
  projection_unseen held m' same = rw (inverse_same m m' same)

  -- 16 and 19 refuse a model-view that cannot be inverted; whether lighting is on, and 19's mode, are no part of it
  pub singular_transformed : normal_matrix_of m true ≡ None → transformed_verdict p true m ≡ refused NotInvertible 0
  unfolding transformed_verdict transformed_by
  singular_transformed h = rw h

  pub singular_textured : at_most p 1 2 ≡ done → normal_matrix_of m true ≡ None → textured_verdict p true true m ≡ refused NotInvertible 0
  unfolding textured_verdict checked_verdict textured_by
  singular_textured range h = rw (range, h)

  -- 14 and 18 never look
  pub never_looked : invertible_of (normal_matrix_of m false) ≡ done
  unfolding normal_matrix_of
  never_looked = refl

  -- 14 and 16 test every input word before any transformed position
  pub words-first : (normal : Bool) {matrix : Matrix3} {reason : Reason} {index : ℕ} → normal_matrix_of m normal ≡ Some matrix → inputs_of p normal false ≡ refused reason index
      → transformed_verdict p normal m ≡ refused reason index
  unfolding transformed_verdict transformed_by
  words-first normal inverse words = rw (inverse, words)

  -- the mode, word 1, is tested before anything else, the number too
  pub mode_first : (normal held : Bool) → 2 < word_at p 1 → textured_verdict p normal held m ≡ refused OutOfRange 1
  unfolding textured_verdict
  mode_first normal held h = rw (lt-leb _ _ h)

module _ (p : List ℕ) (tri : List ClipVertex) (h : finite4 (corner tri 0).position ≡ false) where
  -- 14 and 16 refuse a transformed position that is not finite
  pub overflow_refused : (normal : Bool) (matrix : Matrix3) → inputs_of p normal false ≡ done → transformed_by p normal (Some matrix) tri ≡ refused NotFinite (first_of normal false 0)
  unfolding transformed_by
  overflow_refused normal matrix finite = rw (finite, h)

  -- and so does 18, which points at the vertex's first word whatever that is
  pub overflow_refused_plain : (matrix : Matrix3) → textured_by p false (Some matrix) tri ≡ refused NotFinite 2
  unfolding textured_by plain_of plain_vertex
  overflow_refused_plain matrix = rw h

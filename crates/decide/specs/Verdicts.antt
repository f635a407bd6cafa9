-- What the checks of the float draws come to: a verdict over the command's words, the matrices, and whether a number is held. No plane, no depths and no texels. The order of checks is the original's. Definitions only.
use Rattle.std.specs.Prelude.{ℕ, zero, suc, ◌+◌, Bool, true, false, cond, ◌&&◌, List, ◌∷◌, drop, take, Option, Some, None, Ok, Err, Float}
use Rattle.std.specs.Float.Ieee.Scale.{finite}
use Rattle.vector.specs.Three.{at}
use Rattle.vector.specs.declared.normal.Matrix3.{Matrix3}
use Rattle.clip.specs.declared.vertex.ClipVertex.{ClipVertex}
use Rattle.verdict.specs.declared.Reason.TheVariants.{NotFinite, NotHeld, NotInvertible}
use Rattle.verdict.specs.Verdict.{Verdict, because, done}
use Rattle.payload.specs.Words.{and_then, word_at, at_most, finite_from}
use Rattle.decide.specs.Corners.{color_at, first_of, corner, normal_matrix_of, corners_of}

-- reason 8: the matrix has no inverse
abbrev pub invertible_of : Option Matrix3 → Verdict
invertible_of (Some matrix) = done
invertible_of None = Err (because NotInvertible 0)

-- reason 7: the number is not held. The number is word 0 of every draw that has one
abbrev pub held_of : Bool → Verdict
held_of held = cond held done (Err (because NotHeld 0))

-- `vertex.position.iter().all(|value| value.is_finite())`: a transformed position that is not finite is refused at its vertex's first word
unfoldable pub finite4 : List Float → Bool
finite4 v = finite (at v 0) && (finite (at v 1) && (finite (at v 2) && finite (at v 3)))

abbrev pub reached_of : ClipVertex → ℕ → Verdict
reached_of v o = cond (finite4 v.position) done (Err (because NotFinite o))

-- the three vertices in turn: `check i` is the check of vertex i
abbrev pub each_of : (ℕ → Verdict) → Verdict
each_of check = and_then (check 0) (and_then (check 1) (check 2))

-- the words before the colour, as they come: position, then normal, then texture coordinates
unfoldable pub inputs_of : List ℕ → Bool → Bool → Verdict
inputs_of p normal textured = each_of (λ i. finite_from p (first_of normal textured i) (color_at normal textured))

-- ---- rule 3.11, 14 and 16: the matrix, the words of all three vertices, then their transformed positions
unfoldable pub transformed_by : List ℕ → Bool → Option Matrix3 → List ClipVertex → Verdict
transformed_by p normal inverse tri =
    and_then (invertible_of inverse)
    (and_then (inputs_of p normal false)
    (each_of (λ i. reached_of (corner tri i) (first_of normal false i))))

unfoldable pub transformed_verdict : List ℕ → Bool → List Float → Verdict
transformed_verdict p normal m = transformed_by p normal (normal_matrix_of m normal) (corners_of p normal false m)

-- ---- rule 3.12, 18 and 19
-- 18 never tests input positions. For each vertex it tests the transformed position, then u and v. 19 tests the words as they come, and no transformed position
unfoldable pub plain_vertex : List ℕ → ClipVertex → ℕ → Verdict
plain_vertex p v o = and_then (reached_of v o) (finite_from p (o + 3) 2)

unfoldable pub plain_of : List ℕ → List ClipVertex → Verdict
plain_of p tri = each_of (λ i. plain_vertex p (corner tri i) (first_of false true i))

-- the matrix before any vertex word
unfoldable pub textured_by : List ℕ → Bool → Option Matrix3 → List ClipVertex → Verdict
textured_by p normal inverse tri = and_then (invertible_of inverse) (cond normal (inputs_of p true true) (plain_of p tri))

-- what is tested after the mode and the number
unfoldable pub checked_verdict : List ℕ → Bool → List Float → Verdict
checked_verdict p normal m = textured_by p normal (normal_matrix_of m normal) (corners_of p normal true m)

-- the mode (index 1) before the number (index 0)
unfoldable pub textured_verdict : List ℕ → Bool → Bool → List Float → Verdict
textured_verdict p normal held m = and_then (at_most p 1 2) (and_then (held_of held) (checked_verdict p normal m))

-- ---- rule 3.15, 1B: each record of 28 words becomes a 29-word triangle
abbrev pub triangle_of : ℕ → List ℕ → List ℕ
triangle_of mode words = word_at words 0 ∷ mode ∷ take 27 (drop 1 words)

-- n records from the start of the words on: the first refused one gives the draw's verdict. `has k`: a texture is held under k
unfoldable pub records_verdict : ℕ → (ℕ → Bool) → List Float → ℕ → List ℕ → Verdict
records_verdict mode has m zero words = done
records_verdict mode has m (suc n) words =
    and_then (textured_verdict (triangle_of mode words) true (has (word_at words 0)) m) (records_verdict mode has m n (drop 28 words))

-- ---- what is refused in every state: a mode out of range, and words that are no finite floats (request A4)
abbrev pub refused : Verdict → Bool
refused (Ok u) = false
refused (Err e) = true

-- These say that it is refused, and no more. Their index is the command's own only if no check comes before these, and 18 refuses a position at its vertex's first word
abbrev pub always_transformed : List ℕ → Bool → Verdict
always_transformed p normal = inputs_of p normal false

abbrev pub always_textured : List ℕ → Bool → Verdict
always_textured p normal = and_then (at_most p 1 2) (inputs_of p normal true)

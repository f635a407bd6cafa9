-- From the words of a float triangle to its corners. One vertex is its position, then its normal and its texture coordinates if the command has them, then its colour. In the original: `draw_transformed_triangle_impl`, `draw_textured_triangle`, `draw_textured_lit_triangle`. Definitions only.
--     has_normal   16 and 19
--     textured     18 and 19, whose first two words are the texture's number and the mode
use Rattle.std.specs.Prelude.{ℕ, ◌+◌, ◌*◌, Bool, cond, List, [], ◌∷◌, get_or, Option, Some, None, Float}
use Rattle.ieee.specs.Units.{zero32, one32}
use Rattle.vector.specs.Three.{at, normal_of}
use Rattle.vector.specs.Matrices.{transform_of, multiply_of}
use Rattle.vector.specs.Normals.{inverse_transpose_of, apply_of}
use Rattle.vector.specs.declared.normal.Matrix3.{Matrix3}
use Rattle.clip.specs.declared.vertex.ClipVertex.{ClipVertex}
use Rattle.clip.specs.Vertices.{no_vertex}
use Rattle.payload.specs.Words.{word_at, float_at, three_at, color_of}

-- ---- rule 5.1: where the words are
-- how many words a vertex has before its texture coordinates, and before its colour; the colour is its last
abbrev pub uv_at : Bool → ℕ
uv_at normal = cond normal 6 3

abbrev pub color_at : Bool → Bool → ℕ
color_at normal textured = cond textured (uv_at normal + 2) (uv_at normal)

-- `stride`, and `o`: the first word of vertex i
abbrev pub stride_of : Bool → Bool → ℕ
stride_of normal textured = color_at normal textured + 1

abbrev pub first_of : Bool → Bool → ℕ → ℕ
first_of normal textured i = cond textured 2 0 + i * stride_of normal textured

-- rule 3.2: how many words each of the four has
abbrev pub words_of : Bool → Bool → ℕ
words_of normal textured = first_of normal textured 3

-- ---- a vertex
-- `pos`
abbrev pub input_of : List ℕ → ℕ → List Float
input_of p o = float_at p o ∷ float_at p (o + 1) ∷ float_at p (o + 2) ∷ one32 ∷ []

-- rule 5.2, `view`, and `position`: the model matrix, the view's, the projection's
unfoldable pub view_of : List Float → List Float → List Float
view_of m pos = transform_of m 16 (transform_of m 0 pos)

unfoldable pub projected_of : List Float → List Float → List Float
projected_of m view = transform_of m 32 view

abbrev pub none3 : List Float
none3 = zero32 ∷ zero32 ∷ zero32 ∷ []

-- `normalize(apply_normal_matrix(&normal_matrix, normal))`
unfoldable pub normal_at : Matrix3 → List Float → List Float
normal_at matrix normal = normal_of (apply_of matrix normal)

unfoldable pub normal_in : List ℕ → ℕ → Bool → Matrix3 → List Float
normal_in p o normal matrix = cond normal (normal_at matrix (three_at p (o + 3))) none3

-- `uv`, from word k on
unfoldable pub uv_in : List ℕ → ℕ → Bool → List Float
uv_in p k textured = cond textured (float_at p k ∷ float_at p (k + 1) ∷ []) (zero32 ∷ zero32 ∷ [])

-- `vertices[i]`, whose first word is o
unfoldable pub corner_of : List ℕ → ℕ → Bool → Bool → List Float → Matrix3 → ClipVertex
corner_of p o normal textured m matrix =
    let view = view_of m (input_of p o) in
    record {
      position = projected_of m view;
      view_position = at view 0 ∷ at view 1 ∷ at view 2 ∷ [];
      normal = normal_in p o normal matrix;
      color = color_of (word_at p (o + color_at normal textured));
      uv = uv_in p (o + uv_at normal) textured;
    }

-- corner i of three
abbrev pub corner : List ClipVertex → ℕ → ClipVertex
corner tri i = get_or tri i no_vertex

-- ---- rule 5.3, the normal matrix: for 16 and 19 the inverse of the model-view's, transposed. 14 and 18 never read it
abbrev pub zero3 : Matrix3
zero3 = record { a = zero32; b = zero32; c = zero32; d = zero32; e = zero32; f = zero32; g = zero32; h = zero32; i = zero32 }

unfoldable pub normal_matrix_of : List Float → Bool → Option Matrix3
normal_matrix_of m normal = cond normal (inverse_transpose_of (multiply_of m 16 0)) (Some zero3)

-- the matrix, if there is one
abbrev pub or_zero : Option Matrix3 → Matrix3
or_zero (Some matrix) = matrix
or_zero None = zero3

-- `vertices`, before they are lit
unfoldable pub corners_by : List ℕ → Bool → Bool → List Float → Matrix3 → List ClipVertex
corners_by p normal textured m matrix =
    corner_of p (first_of normal textured 0) normal textured m matrix
    ∷ corner_of p (first_of normal textured 1) normal textured m matrix
    ∷ corner_of p (first_of normal textured 2) normal textured m matrix ∷ []

unfoldable pub corners_of : List ℕ → Bool → Bool → List Float → List ClipVertex
corners_of p normal textured m = corners_by p normal textured m (or_zero (normal_matrix_of m normal))

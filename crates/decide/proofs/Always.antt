-- What is refused in every state: whatever the matrices are and whether or not the number is held. By way of what is done: then each check was passed.
-- 18 tests transformed positions only, and one that is finite comes of finite words. Assumes nothing.
use Prim.Native.Nat.{ℕ, suc, ◌+◌}
use mathlib.Core.Path.{◌≡◌, refl, ◌∙◌}
use mathlib.Core.Bool.{Bool, true, false, cond, ◌&&◌}
use mathlib.Core.List.{List}
use native.Mathlib.Omega.{arith}
use lib.Ieee.{Float}
use lib.Ieee.Scale.{finite}
use Rattle.vector.specs.Three.{at}
use Rattle.vector.specs.Matrices.{transform_of}
use Rattle.vector.specs.declared.normal.Matrix3.{Matrix3}
use Rattle.verdict.specs.declared.Refused.{Refused}
use Rattle.verdict.specs.Verdict.{Verdict, because, done}
use Rattle.std.specs.Prelude.{Ok, Err}
use Rattle.verdict.specs.declared.Reason.TheVariants.{NotFinite}
use Rattle.clip.specs.declared.vertex.ClipVertex.{ClipVertex}
use Rattle.payload.specs.Words.{float_at, at_most, finite_from}
use Rattle.verdict.proofs.Checks.{first_done, next_done}
use Rattle.decide.specs.Corners.{view_of, projected_of, corner_of, corners_by, corners_of, input_of, normal_matrix_of, or_zero}
use Rattle.decide.specs.Verdicts.{invertible_of, held_of, finite4, reached_of, inputs_of, transformed_by, transformed_verdict, plain_vertex, plain_of, textured_by, checked_verdict, textured_verdict, refused, always_transformed, always_textured}
use Rattle.decide.proofs.Finite.{row_finite}

-- ---- done, so each of the checks is
never : {A : Type 0} {e : Refused} → ◌≡◌ {A = Verdict} (Err e) done → A
never h = let z : ◌≡◌ {A = ℕ} 0 1 = cc in absurd (omega arith)

-- refused because not done
by_done : (a b : Verdict) → (b ≡ done → a ≡ done) → refused a ≡ true → refused b ≡ true
by_done a (Ok u) f h = rw (f refl) at h
by_done a (Err e) f h = refl

-- ---- 18's vertex
reached_finite : (v : ClipVertex) (o : ℕ) → reached_of v o ≡ done → finite (at v.position 0) ≡ true
unfolding finite4
reached_finite v o h = go (finite (at v.position 0)) _ h
  where
    go : (a b : Bool) → cond (a && b) done (Err (because NotFinite o)) ≡ done → a ≡ true
    go true b h = refl
    go false b h = never h

step : (p : List ℕ) (i n : ℕ) → finite (float_at p i) ≡ true → finite_from p i (suc n) ≡ finite_from p (i + 1) n
unfolding finite_from
step p i n h = rw h

past_three : (p : List ℕ) (o : ℕ) → finite (float_at p o) ≡ true → finite (float_at p (o + 1)) ≡ true → finite (float_at p (o + 2)) ≡ true
    → finite_from p o 5 ≡ finite_from p (o + 3) 2
past_three p o x y z =
    let two : o + 1 + 1 ≡ o + 2 = omega arith in
    let three : o + 2 + 1 ≡ o + 3 = omega arith in
    step p o 4 x ∙ step p (o + 1) 3 y ∙ rw two (step p (o + 2) 2 z ∙ rw three)

vertex_done : (p : List ℕ) (o : ℕ) (m : List Float) (matrix : Matrix3) → plain_vertex p (corner_of p o false true m matrix) o ≡ done → finite_from p o 5 ≡ done
unfolding plain_vertex corner_of projected_of view_of
vertex_done p o m matrix h =
    let v = corner_of p o false true m matrix in
    let view = row_finite m 32 (view_of m (input_of p o)) (reached_finite v o (first_done _ _ h)) in
    let model = row_finite m 16 (transform_of m 0 (input_of p o)) view.x in
    let input = row_finite m 0 (input_of p o) model.x in
    past_three p o input.x input.y input.z ∙ next_done (reached_of v o) _ h

plain_done : (p : List ℕ) (m : List Float) → plain_of p (corners_of p false true m) ≡ done → inputs_of p false true ≡ done
unfolding plain_of corners_of corners_by inputs_of
plain_done p m h =
    let k = or_zero (normal_matrix_of m false) in
    let checked : ℕ → Verdict = λ o. plain_vertex p (corner_of p o false true m k) o in
    let rest = next_done (checked 2) _ h in
    rw (vertex_done p 2 m k (first_done _ _ h), vertex_done p 8 m k (first_done _ _ rest), vertex_done p 14 m k (next_done (checked 8) _ rest))

-- ---- the commands
transformed_done : (p : List ℕ) (normal : Bool) (m : List Float) → transformed_verdict p normal m ≡ done → always_transformed p normal ≡ done
unfolding transformed_verdict transformed_by
transformed_done p normal m h = first_done _ _ (next_done (invertible_of (normal_matrix_of m normal)) _ h)

checked_done : (p : List ℕ) (normal : Bool) (m : List Float) → checked_verdict p normal m ≡ done → inputs_of p normal true ≡ done
unfolding checked_verdict textured_by
checked_done p true m h = next_done (invertible_of (normal_matrix_of m true)) _ h
checked_done p false m h = plain_done p m (next_done (invertible_of (normal_matrix_of m false)) _ h)

textured_done : (p : List ℕ) (normal held : Bool) (m : List Float) → textured_verdict p normal held m ≡ done → always_textured p normal ≡ done
unfolding textured_verdict
textured_done p normal held m h =
    let range = first_done (at_most p 1 2) _ h in
    rw (range, checked_done p normal m (next_done (held_of held) _ (next_done (at_most p 1 2) _ h)))

-- what 14 and 16 refuse in every state
pub transformed_refused : (p : List ℕ) (normal : Bool) (m : List Float) → refused (always_transformed p normal) ≡ true → refused (transformed_verdict p normal m) ≡ true
transformed_refused p normal m = by_done _ _ (transformed_done p normal m)

-- what 18 and 19 do
pub textured_refused : (p : List ℕ) (normal held : Bool) (m : List Float) → refused (always_textured p normal) ≡ true → refused (textured_verdict p normal held m) ≡ true
textured_refused p normal held m = by_done _ _ (textured_done p normal held m)

-- Which reasons a command's checks give, and at which words: what holds of "done" and of reasons 3 to 8, with an index up to 28, holds of every verdict but a full store's. Assumes nothing.
use Prim.Native.Nat.{ℕ, zero, suc, ◌+◌, ◌≤◌}
use mathlib.Core.Path.{refl}
use mathlib.Core.Bool.{Bool, true, false}
use mathlib.Core.Option.{Option, none, some}
use mathlib.Core.List.{List, [], ◌∷◌}
use native.Mathlib.Omega.{arith}
use lib.Dec.{eqb, leb, ltb}
use lib.Ieee.{Float}
use lib.Ieee.Scale.{finite}
use lib.ListN.{length, drop, get_or}
use Rattle.std.specs.Prelude.{Some, None, Result, Ok, Err}
use Rattle.std.specs.Prelude as std
use Rattle.vector.specs.declared.normal.Matrix3.{Matrix3}
use Rattle.clip.specs.declared.vertex.ClipVertex.{ClipVertex}
use Rattle.verdict.specs.declared.Reason.TheVariants.{OutOfRange, NotFinite, NotHeld, NotInvertible}
use Rattle.verdict.specs.Verdict.{Verdict, refused}
use Rattle.verdict.specs.Verdict as verdict
use Rattle.verdict.specs.declared.Refused.{Refused}
use Rattle.verdict.proofs.First.{Low}
use Rattle.payload.specs.Words.{and_then, passed, word_at, float_at, at_most, finite_from}
use Rattle.settings.specs.declared.Settings.{Settings}
use Rattle.settings.specs.Settings.{mode_verdict, matrix_verdict, light_verdict}
use Rattle.store.specs.Uploads.{Whole}
use Rattle.flat.specs.Words.{signed_at, in_reach, first_out, flat_verdict}
use Rattle.sprite.specs.Words.{fit_verdict, sprite_verdict}
use Rattle.decide.specs.Corners.{first_of, corner, normal_matrix_of, corners_of}
use Rattle.decide.specs.Verdicts.{invertible_of, held_of, finite4, reached_of, each_of, inputs_of, plain_vertex, plain_of, transformed_by, transformed_verdict, textured_by, checked_verdict, textured_verdict, triangle_of, records_verdict}
use Rattle.judge.specs.Judge.{model_verdict}
use Rattle.store.specs.declared.Kind.TheVariants.{Texture, Model}
use Rattle.command.specs.declared.Setting.{Setting}
use Rattle.command.specs.declared.Setting.TheVariants as setting
use Rattle.command.specs.declared.Draw.{Draw}
use Rattle.command.specs.declared.Draw.TheVariants as draw
use Rattle.command.specs.declared.Command.{Command}
use Rattle.command.specs.declared.Command.TheVariants.{Sets, Loads, Paints}
use Rattle.command.specs.Command.{command_of, setting_words, draw_words}
use Rattle.execute.specs.Commands.{Look, Painted, blank, unknown, wrong_length, verdict_by, set_by, settings_after, texture_verdict, count_verdict, clear_painted, sprite_painted, flat_painted, transformed_painted, textured_painted, model_painted, drawn_by, painted_by, told_as, told}
use Rattle.execute.proofs.Told.{told_as_lem}
use Rattle.laws.proofs.Bools.{either}

module _ (Q : Verdict → Type 0) (done : Q verdict.done) (range : (i : ℕ) → i ≤ 28 → Q (refused OutOfRange i)) (float : (i : ℕ) → i ≤ 28 → Q (refused NotFinite i)) (matrix : Q (refused NotInvertible 0)) where
  then_so : (v w : Verdict) → Q v → Q w → Q (and_then v w)
  then_so (Ok u) w a b = b
  then_so (Err e) w a b = a

  most_so : (p : List ℕ) (i most : ℕ) → i ≤ 28 → Q (at_most p i most)
  most_so p i most h = either Q (leb (word_at p i) most) _ _ done (range i h)

  from_so : (p : List ℕ) (i n : ℕ) → i + n ≤ 29 → Q (finite_from p i n)
  unfolding finite_from
  from_so p i zero h = done
  from_so p i (suc n) h = either Q (finite (float_at p i)) _ _ (from_so p (i + 1) n (omega arith)) (float i (omega arith))

  each_so : (check : ℕ → Verdict) → Q (check 0) → Q (check 1) → Q (check 2) → Q (each_of check)
  each_so check a b c = then_so (check 0) _ a (then_so (check 1) _ b c)

  invertible_so : (x : std.Option Matrix3) → Q (invertible_of x)
  invertible_so (Some m) = done
  invertible_so None = matrix

  reached_so : (v : ClipVertex) (o : ℕ) → o ≤ 28 → Q (reached_of v o)
  reached_so v o h = either Q (finite4 v.position) _ _ done (float o h)

  inputs_so : (p : List ℕ) (normal textured : Bool) → Q (inputs_of p normal textured)
  unfolding inputs_of
  inputs_so p true true = each_so (λ i. finite_from p (first_of true true i) 8) (from_so p 2 8 (omega arith)) (from_so p 11 8 (omega arith)) (from_so p 20 8 (omega arith))
  inputs_so p true false = each_so (λ i. finite_from p (first_of true false i) 6) (from_so p 0 6 (omega arith)) (from_so p 7 6 (omega arith)) (from_so p 14 6 (omega arith))
  inputs_so p false true = each_so (λ i. finite_from p (first_of false true i) 5) (from_so p 2 5 (omega arith)) (from_so p 8 5 (omega arith)) (from_so p 14 5 (omega arith))
  inputs_so p false false = each_so (λ i. finite_from p (first_of false false i) 3) (from_so p 0 3 (omega arith)) (from_so p 4 3 (omega arith)) (from_so p 8 3 (omega arith))

  vertex_so : (p : List ℕ) (v : ClipVertex) (o : ℕ) → o ≤ 14 → Q (plain_vertex p v o)
  unfolding plain_vertex
  vertex_so p v o h = then_so (reached_of v o) _ (reached_so v o (omega arith)) (from_so p (o + 3) 2 (omega arith))

  plain_so : (p : List ℕ) (tri : List ClipVertex) → Q (plain_of p tri)
  unfolding plain_of
  plain_so p tri = each_so (λ i. plain_vertex p (corner tri i) (first_of false true i)) (vertex_so p (corner tri 0) 2 (omega arith)) (vertex_so p (corner tri 1) 8 (omega arith)) (vertex_so p (corner tri 2) 14 (omega arith))

  all_reached_so : (tri : List ClipVertex) (normal : Bool) → Q (each_of (λ i. reached_of (corner tri i) (first_of normal false i)))
  all_reached_so tri true = each_so (λ i. reached_of (corner tri i) (first_of true false i)) (reached_so (corner tri 0) 0 (omega arith)) (reached_so (corner tri 1) 7 (omega arith)) (reached_so (corner tri 2) 14 (omega arith))
  all_reached_so tri false = each_so (λ i. reached_of (corner tri i) (first_of false false i)) (reached_so (corner tri 0) 0 (omega arith)) (reached_so (corner tri 1) 4 (omega arith)) (reached_so (corner tri 2) 8 (omega arith))

  -- a textured draw, after its mode and its number
  pub checked_so : (p : List ℕ) (normal : Bool) (m : List Float) → Q (checked_verdict p normal m)
  unfolding checked_verdict textured_by
  checked_so p normal m =
      then_so (invertible_of (normal_matrix_of m normal)) _ (invertible_so (normal_matrix_of m normal))
      (either Q normal (inputs_of p true true) (plain_of p (corners_of p normal true m)) (inputs_so p true true) (plain_so p (corners_of p normal true m)))

  transformed_so : (p : List ℕ) (normal : Bool) (m : List Float) → Q (transformed_verdict p normal m)
  unfolding transformed_verdict transformed_by
  transformed_so p normal m =
      then_so (invertible_of (normal_matrix_of m normal)) _ (invertible_so (normal_matrix_of m normal))
      (then_so (inputs_of p normal false) _ (inputs_so p normal false) (all_reached_so (corners_of p normal false m) normal))

  out_so : (p : List ℕ) (k : ℕ) (ks : List ℕ) → k ≤ 28 → Q (first_out p ks) → Q (first_out p (k ∷ ks))
  out_so p k ks h a = either Q (in_reach (signed_at p k)) _ _ a (range k h)

  flat_so : (p : List ℕ) → Q (flat_verdict p)
  unfolding flat_verdict
  flat_so p =
      out_so p 0 (1 ∷ 3 ∷ 4 ∷ 6 ∷ 7 ∷ []) (omega arith)
      (out_so p 1 (3 ∷ 4 ∷ 6 ∷ 7 ∷ []) (omega arith)
      (out_so p 3 (4 ∷ 6 ∷ 7 ∷ []) (omega arith) (out_so p 4 (6 ∷ 7 ∷ []) (omega arith) (out_so p 6 (7 ∷ []) (omega arith) (out_so p 7 [] (omega arith) done)))))

  pub fit_so : (p : List ℕ) (w h : ℕ) → Q (fit_verdict p w h)
  unfolding fit_verdict
  fit_so p w h =
      let wide : Q (refused OutOfRange 3) = range 3 (omega arith) in
      let high : Q (refused OutOfRange 4) = range 4 (omega arith) in
      either Q (eqb (get_or p 3 0) 0) _ _ wide
      (either Q (eqb (get_or p 4 0) 0) _ _ high
      (either Q (leb (get_or p 1 0 + get_or p 3 0) w) _ _
      (either Q (leb (get_or p 2 0 + get_or p 4 0) h) _ _ (out_so p 5 (6 ∷ []) (omega arith) (out_so p 6 [] (omega arith) done)) high) wide))

  module _ (long : Q wrong_length) (no_such : Q unknown) (held : Q (refused NotHeld 0)) where
    -- ---- those that set
    passed_so : {A : Type 0} (v : Verdict) (a : A) → Q v → Q (verdict_by (passed v a))
    passed_so (Ok u) a h = h
    passed_so (Err e) a h = h

    by_so : (s : Settings) (x : Setting) (p : List ℕ) → Q (verdict_by (set_by s x p))
    unfolding mode_verdict matrix_verdict light_verdict
    by_so s setting.Mode p = passed_so _ _ (then_so (at_most p 0 1) _ (most_so p 0 1 (omega arith)) (most_so p 1 1 (omega arith)))
    by_so s setting.Matrix p = passed_so _ _ (then_so (at_most p 0 2) _ (most_so p 0 2 (omega arith)) (from_so p 1 16 (omega arith)))
    by_so s setting.Light p = passed_so _ _ (then_so (at_most p 0 7) _ (most_so p 0 7 (omega arith)) (then_so (at_most p 1 1) _ (most_so p 1 1 (omega arith)) (from_so p 2 15 (omega arith))))

    set_so : (s : Settings) (x : Setting) (p : List ℕ) → Q (verdict_by (settings_after s x p))
    unfolding settings_after
    set_so s x p = either (λ (c : Result Settings Refused). Q (verdict_by c)) (eqb (length p) (setting_words x)) (set_by s x p) (Err _) (by_so s x p) long

    -- ---- 17 and 1A, before room is asked
    texture_so : (p : List ℕ) → Q (texture_verdict p)
    unfolding texture_verdict
    texture_so p =
        let wide : Q (refused OutOfRange 1) = range 1 (omega arith) in
        let high : Q (refused OutOfRange 2) = range 2 (omega arith) in
        either Q (ltb (length p) 3) _ _ long
        (either Q (eqb (word_at p 1) 0) _ _ wide
        (either Q (eqb (word_at p 2) 0) _ _ high (either Q (ltb 1024 (word_at p 1)) _ _ wide (either Q (ltb 1024 (word_at p 2)) _ _ high (either Q (eqb (length p) _) _ _ done long)))))

    count_so : (p : List ℕ) → Q (count_verdict p)
    unfolding count_verdict
    count_so p = either Q (ltb (length p) 2) _ _ long (either Q (eqb (word_at p 1) 0) _ _ (range 1 (omega arith)) (either Q (eqb (length p) _) _ _ done long))

    -- ---- the draws
    sprite_so : (p : List ℕ) (o : Option Whole) → Q (sprite_verdict p o)
    unfolding sprite_verdict
    sprite_so p none = held
    sprite_so p (some u) = fit_so p u.wide u.high

    textured_so : (p : List ℕ) (normal b : Bool) (m : List Float) → Q (textured_verdict p normal b m)
    unfolding textured_verdict
    textured_so p normal b m = then_so (at_most p 1 2) _ (most_so p 1 2 (omega arith)) (then_so (held_of b) _ (either Q b _ _ done held) (checked_so p normal m))

    records_so : (mode : ℕ) (has : ℕ → Bool) (m : List Float) (n : ℕ) (ws : List ℕ) → Q (records_verdict mode has m n ws)
    unfolding records_verdict
    records_so mode has m zero ws = done
    records_so mode has m (suc n) ws =
        then_so (textured_verdict (triangle_of mode ws) true (has (word_at ws 0)) m) _ (textured_so (triangle_of mode ws) true (has (word_at ws 0)) m) (records_so mode has m n (drop 28 ws))

    model_so : (p : List ℕ) (has : ℕ → Bool) (m : List Float) (o : Option Whole) → Q (model_verdict p has m o)
    unfolding model_verdict
    model_so p has m none = then_so (at_most p 1 2) _ (most_so p 1 2 (omega arith)) held
    model_so p has m (some u) = then_so (at_most p 1 2) _ (most_so p 1 2 (omega arith)) (records_so (word_at p 1) has m u.wide u.words)

    drawn_so : (look : Look) (s : Settings) (d : Draw) (p : List ℕ) → Q (drawn_by look s d p).verdict
    unfolding clear_painted sprite_painted flat_painted transformed_painted textured_painted model_painted
    drawn_so look s draw.Clear p = most_so p 0 3 (omega arith)
    drawn_so look s draw.Sprite p = sprite_so p _
    drawn_so look s draw.Flat p = flat_so p
    drawn_so look s (draw.Transformed normal) p = transformed_so p normal s.matrices
    drawn_so look s (draw.Textured normal) p = textured_so p normal _ s.matrices
    drawn_so look s draw.Model p = model_so p _ s.matrices _

    painted_so : (look : Look) (s : Settings) (d : Draw) (p : List ℕ) → Q (painted_by look s d p).verdict
    unfolding painted_by
    painted_so look s d p = either (λ (a : Painted). Q a.verdict) (eqb (length p) (draw_words d)) (drawn_by look s d p) (blank wrong_length) (drawn_so look s d p) long

    -- ---- every command, before room is asked
    as_so : (look : Look) (s : Settings) (c : std.Option Command) (p : List ℕ) → Q (told_as look s c p).verdict
    as_so look s (Some (Sets x)) p = set_so s x p
    as_so look s (Some (Loads Texture)) p = texture_so p
    as_so look s (Some (Loads Model)) p = count_so p
    as_so look s (Some (Paints d)) p = painted_so look s d p
    as_so look s None p = no_such

    pub told_so : (look : Look) (s : Settings) (op : ℕ) (p : List ℕ) → Q (told look s op p).verdict
    told_so look s op p = rw (told_as_lem look s op p refl) (as_so look s (command_of op) p)

-- the index of a command's verdict is at most 28
pub told-low : (look : Look) (s : Settings) (op : ℕ) (p : List ℕ) → Low 28 (told look s op p).verdict
told-low look s op p = told_so (Low 28) tt (λ i h. h) (λ i h. h) (omega arith) (omega arith) (omega arith) (omega arith) look s op p

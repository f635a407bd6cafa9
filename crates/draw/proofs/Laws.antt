-- The draws' definitions, by what their checks come to: for the proofs of the functions. Assumes nothing.
use Prim.Native.Nat.{ℕ, ◌/◌, ◌<◌}
use mathlib.Core.Path.{◌≡◌, refl, sym, ap, ◌∙◌}
use mathlib.Core.Bool.{Bool, true, false, cond, ◌&&◌}
use mathlib.Core.Option.{Option, none, some}
use mathlib.Core.List.{List, [], ◌∷◌, ◌++◌}
use lib.Dec.{eqb, leb, ltb}
use borrow.Author.Tests.{leb-true, ltb-true}
use native.Mathlib.Omega.{arith}
use lib.ListN.{length}
use Rattle.std.specs.Prelude.{Some, None, Result, Ok, Err}
use Rattle.std.specs.Prelude as std
use Rattle.std.specs.Result.{result_and}
use Rattle.clip.specs.declared.vertex.ClipVertex.{ClipVertex}
use Rattle.settings.specs.declared.Settings.{Settings}
use Rattle.stroke.specs.declared.Brush.{Brush}
use Rattle.stroke.specs.declared.Brush.TheVariants.{Flat, Blended}
use Rattle.stroke.specs.Strokes.{Sheet, stroke, stroke_on, strokes_on, Stored}
use Rattle.stroke.proofs.Laws.{strokes_append}
use Rattle.store.specs.Uploads.{Whole, is_some}
use Rattle.store.specs.Slots.{area_of, sides_ok, upload_at, slot_for, looked, look_in}
use Rattle.store.specs.declared.Slot.{Slot}
use Rattle.store.specs.declared.Kind.TheVariants.{Texture, Model}
use Rattle.laws.proofs.Bools.{and_left, and_right}
use Rattle.verdict.specs.declared.Refused.{Refused}
use Rattle.verdict.specs.Verdict.{Verdict, done, passed}
use Rattle.payload.specs.Words.{and_then, when_done, word_at, at_most}
use Rattle.verdict.proofs.Checks.{first_done, next_done, and_assoc, and_done}
use Rattle.decide.specs.Corners.{corners_of}
use Rattle.decide.specs.Verdicts.{held_of, checked_verdict, textured_verdict, triangle_of, records_verdict}
use Rattle.lit.specs.Lit.{textured_lit}
use Rattle.draw.specs.Draws.{flat_color, shaded_brush, textured_corners, textured_brush, textured_stroke, held_strokes, textured_strokes, records_strokes, model_strokes, has_in}
use Rattle.judge.specs.Judge.{is_at, held_in, named_verdict, slot_by, judged_by}
use Rattle.judge.specs.declared.Judged.{Judged}
use Rattle.store.proofs.Places.{look_some}
use Rattle.judge.proofs.Laws.{look-held, verdict_of, answer_of, named_refused, mode_done, found_by, front_word, front_triangle, behind, one_more, records_next, records_none}

-- ---- corners lit and painted with the texture of a slot
pub textured_painted_lem : (s : Settings) (mode : ℕ) (normal : Bool) (corners tri : List ClipVertex) (u : Whole) (brush : Brush) (texels : List ℕ) (a b : Sheet)
    → tri ≡ textured_lit s.lighting_enabled mode s.lights normal corners → brush ≡ textured_brush u.wide u.high mode tri → texels ≡ u.words
    → b ≡ stroke_on (stroke tri brush texels) a → b ≡ stroke_on (textured_stroke s mode normal corners u) a
unfolding textured_stroke
textured_painted_lem s mode normal corners tri u brush texels a b t k w e = rw (← t, ← k, ← w) e

-- ---- 18 and 19, by what judging them came to
none-painted : {A : Type 0} (v w : Verdict) {x : Refused} (a b : A) → and_then v w ≡ Err x → when_done v (when_done w a b) b ≡ b
none-painted (Ok u) w a b h = rw h
none-painted (Err e) w a b h = refl

module _ (s : Settings) (p : List ℕ) (normal : Bool) where
  bare : (found : Option Whole) {x : Refused} → textured_verdict p normal (is_some found) s.matrices ≡ Err x → textured_strokes s p normal found ≡ []
  unfolding textured_verdict textured_strokes held_strokes
  bare none h = refl
  bare (some u) h = none-painted (at_most p 1 2) (checked_verdict p normal s.matrices) _ [] h

  painted : (u : Whole) → textured_verdict p normal true s.matrices ≡ done
      → textured_strokes s p normal (some u) ≡ textured_stroke s (word_at p 1) normal (corners_of p normal true s.matrices) u ∷ []
  unfolding textured_verdict textured_strokes held_strokes textured_corners textured_stroke
  painted u h = rw (first_done (at_most p 1 2) _ h, next_done (at_most p 1 2) _ h)

  module _ (slots : List Slot) (store : List ℕ) {judged : Result Judged Refused} (e : judged ≡ judged_by p normal s.matrices slots) where
    same : textured_verdict p normal (is_some (look_in Texture slots store (word_at p 0))) s.matrices ≡ textured_verdict p normal (held_in slots (word_at p 0)) s.matrices
    same = rw (look-held Texture slots store (word_at p 0))

    -- refused: nothing is painted
    pub judged_refused : {x : Refused} → judged ≡ Err x → (textured_verdict p normal (is_some (look_in Texture slots store (word_at p 0))) s.matrices ≡ Err x)
        × (textured_strokes s p normal (look_in Texture slots store (word_at p 0)) ≡ [])
    unfolding judged_by
    judged_refused h =
        let v = same ∙ verdict_of (textured_verdict p normal (held_in slots (word_at p 0)) s.matrices) _ (sym e ∙ h) in
        (v, bare (look_in Texture slots store (word_at p 0)) v)

    -- accepted: the slot that is handed on is the one that is held, and its texture is painted
    module _ {j : Judged} (h : judged ≡ Ok j) where
      both : (textured_verdict p normal (held_in slots (word_at p 0)) s.matrices ≡ done) × (j ≡ record { slot = slot_by p slots; corners = corners_of p normal true s.matrices })
      unfolding judged_by
      both = answer_of (textured_verdict p normal (held_in slots (word_at p 0)) s.matrices) _ j (sym e ∙ h)

      named : named_verdict p slots ≡ done
      unfolding named_verdict textured_verdict
      named =
          let held = held_of (held_in slots (word_at p 0)) in
          first_done (and_then (at_most p 1 2) held) (checked_verdict p normal s.matrices) (and_assoc (at_most p 1 2) held (checked_verdict p normal s.matrices) ∙ both.0)

      slot_is : j.slot ≡ slot_by p slots
      slot_is = ap (λ (i : Judged). i.slot) both.1

      pub judged_found : slot_for (word_at p 0) slots ≡ Some j.slot
      judged_found =
          let handed : passed (named_verdict p slots) (slot_by p slots) ≡ Ok (slot_by p slots) = rw named in
          rw slot_is (found_by p slots refl handed)

      pub judged_done : textured_verdict p normal (is_some (look_in Texture slots store (word_at p 0))) s.matrices ≡ done
      judged_done = same ∙ both.0

      pub judged_painted : textured_strokes s p normal (look_in Texture slots store (word_at p 0)) ≡ textured_stroke s (word_at p 1) normal j.corners (upload_at Texture j.slot store) ∷ []
      judged_painted =
          let is = look_some Texture slots store (word_at p 0) j.slot judged_found in
          let corners : j.corners ≡ corners_of p normal true s.matrices = ap (λ (i : Judged). i.corners) both.1 in
          rw (is, corners) (painted (upload_at Texture j.slot store) (rw is at judged_done))

-- ---- brushes and their textures
pub shaded_stored : (shading n : ℕ) (tri : List ClipVertex) (brush : Brush) → brush ≡ shaded_brush shading tri → Stored brush n
unfolding shaded_brush
shaded_stored shading n tri brush e = rw e (go (eqb shading 0))
  where
    go : (b : Bool) → Stored (cond b (Flat (flat_color tri)) Blended) n
    go true = tt
    go false = tt

pub textured_stored : (width height mode n : ℕ) (tri : List ClipVertex) (brush : Brush) → brush ≡ textured_brush width height mode tri
    → sides_ok Texture width height ≡ true → n ≡ area_of Texture width height → Stored brush n
unfolding textured_brush
textured_stored width height mode n tri brush e h l =
    let w = and_left (ltb 0 width && leb width 1024) (ltb 0 height && leb height 1024) h in
    let v = and_right (ltb 0 width && leb width 1024) (ltb 0 height && leb height 1024) h in
    let a : 0 < width = ltb-true 0 width (and_left (ltb 0 width) (leb width 1024) w) in
    let b : 0 < height = ltb-true 0 height (and_left (ltb 0 height) (leb height 1024) v) in
    rw e
    (record {
      some_width = omega arith;
      some_height = omega arith;
      top_width = leb-true width 1024 (and_right (ltb 0 width) (leb width 1024) w);
      top_height = leb-true height 1024 (and_right (ltb 0 height) (leb height 1024) v);
      in_words = omega arith;
    })

-- ---- 1B: record after record
-- std's `and` is the definitions' `and_then`
pub and_is : (a b : Verdict) → result_and a b ≡ and_then a b
and_is (Ok u) b = refl
and_is (Err e) b = refl

module _ (s : Settings) (mode : ℕ) (textures : ℕ → Option Whole) where
  strokes_next : (front rest : List ℕ) → length front ≡ 28 → records_strokes s mode textures (length (front ++ rest) / 28) (front ++ rest)
      ≡ textured_strokes s (triangle_of mode front) true (textures (word_at front 0)) ++ records_strokes s mode textures (length rest / 28) rest
  unfolding records_strokes
  strokes_next front rest h = rw (one_more front rest h, front_triangle front rest h mode, front_word front rest h, behind front rest h)

  strokes_none : (words : List ℕ) → length words < 28 → records_strokes s mode textures (length words / 28) words ≡ []
  unfolding records_strokes
  strokes_none words h =
      let none : length words / 28 ≡ 0 = omega arith in
      rw none

  module _ (words : List ℕ) where
    -- the records of `left`, whose verdict and strokes complete what came before to the whole
    pub record Left (a₀ a : Sheet) (v : Verdict) (left : List ℕ) : Type 0 where
      pub verdict : and_then v (records_verdict mode (has_in textures) s.matrices (length left / 28) left) ≡ records_verdict mode (has_in textures) s.matrices (length words / 28) words
      pub sheets : strokes_on (records_strokes s mode textures (length left / 28) left) a ≡ strokes_on (records_strokes s mode textures (length words / 28) words) a₀

    pub left_all : (a : Sheet) → Left a a done words
    left_all a = record { verdict = refl; sheets = refl }

    pub left_next : (a₀ a b : Sheet) (v one : Verdict) (left front rest : List ℕ) → Left a₀ a v left → left ≡ front ++ rest → length front ≡ 28
        → one ≡ textured_verdict (triangle_of mode front) true (has_in textures (word_at front 0)) s.matrices
        → b ≡ strokes_on (textured_strokes s (triangle_of mode front) true (textures (word_at front 0))) a
        → Left a₀ b (and_then v one) rest
    left_next a₀ a b v one left front rest h is long e f =
        let tail = records_verdict mode (has_in textures) s.matrices (length rest / 28) rest in
        record {
          verdict = rw (and_assoc v one tail, e, ← records_next front rest long mode (has_in textures) s.matrices, ← is) h.verdict;
          sheets = rw f (sym (strokes_append (textured_strokes s (triangle_of mode front) true (textures (word_at front 0))) (records_strokes s mode textures (length rest / 28) rest) a) ∙ rw (is, strokes_next front rest long) at h.sheets);
        }

    pub left_none : (a₀ a : Sheet) (v : Verdict) (left : List ℕ) → Left a₀ a v left → length left < 28
        → (v ≡ records_verdict mode (has_in textures) s.matrices (length words / 28) words) × (a ≡ strokes_on (records_strokes s mode textures (length words / 28) words) a₀)
    unfolding strokes_on
    left_none a₀ a v left h short =
        (sym (and_done v) ∙ rw (records_none mode (has_in textures) s.matrices left short) at h.verdict, rw (strokes_none left short) at h.sheets)

-- and whole, by the slot that is found
module _ (s : Settings) (p : List ℕ) (textures : ℕ → Option Whole) (slots : List Slot) (store : List ℕ) {named : Result Slot Refused} (e : named ≡ passed (named_verdict p slots) (slot_by p slots)) where
  go_unpainted : (f : std.Option Slot) {x : Refused} → and_then (at_most p 1 2) (held_of (is_at f)) ≡ Err x → model_strokes s p textures (looked Model store f) ≡ []
  unfolding model_strokes
  go_unpainted (Some slot) k = rw (rw (and_done (at_most p 1 2)) at k)
  go_unpainted None k = refl

  pub model_unpainted : {x : Refused} → named ≡ Err x → model_strokes s p textures (look_in Model slots store (word_at p 0)) ≡ []
  unfolding named_verdict
  model_unpainted h = go_unpainted (slot_for (word_at p 0) slots) (named_refused p slots e h)

  pub model_painted : {slot : Slot} → named ≡ Ok slot
      → records_strokes s (word_at p 1) textures slot.width (upload_at Model slot store).words ≡ model_strokes s p textures (look_in Model slots store (word_at p 0))
  unfolding model_strokes
  model_painted h = rw (found_by p slots e h, mode_done p slots e h)

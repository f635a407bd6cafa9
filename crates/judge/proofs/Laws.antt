-- The draws that ask for an upload, by what their checks come to: for the proofs of the functions here and in `draw`. Assumes nothing.
use Prim.Native.Nat.{ℕ, suc, ◌+◌, ◌-◌, ◌*◌, ◌/◌, ◌<◌, ◌≤◌}
use mathlib.Core.Path.{◌≡◌, refl, sym, ◌∙◌}
use mathlib.Core.Bool.{Bool, true}
use mathlib.Core.List.{List, [], ◌++◌}
use native.Mathlib.Omega.{arith}
use lib.ListN.{length, take, drop}
use lib.Seq.{drop-drop}
use Rattle.std.proofs.Common.{length-append, length-drop}
use Rattle.std.proofs.lemmas.List.{take-append-le, drop-append-le}
use Rattle.std.proofs.Math.ListN.{get_or-append}
use Rattle.std.proofs.Math.Seq.{drop-append_seam}
use lib.Ieee.{Float}
use Rattle.std.specs.Prelude.{Option, Some, None, Result, Ok, Err}
use Rattle.vector.specs.declared.normal.Matrix3.{Matrix3}
use Rattle.store.specs.Uploads.{is_some}
use Rattle.store.specs.Slots.{upload_at, slot_for, looked, look_in}
use Rattle.store.specs.declared.Slot.{Slot}
use Rattle.store.specs.declared.Kind.{Kind}
use Rattle.store.specs.declared.Kind.TheVariants.{Model}
use Rattle.verdict.specs.declared.Refused.{Refused}
use Rattle.verdict.specs.Verdict.{Verdict, done, passed}
use Rattle.payload.specs.Words.{and_then, word_at, at_most}
use Rattle.verdict.proofs.Checks.{first_done, next_done, and_assoc, and_done}
use Rattle.decide.specs.Corners.{normal_matrix_of}
use Rattle.decide.specs.Verdicts.{held_of, textured_by, checked_verdict, textured_verdict, triangle_of, records_verdict}
use Rattle.decide.proofs.Decided.{lit_is}
use Rattle.judge.specs.Judge.{is_at, held_in, slot_or, named_verdict, slot_by, model_verdict}

-- ---- the slots decide whether a number is held
pub look-held : (k : Kind) (slots : List Slot) (store : List ℕ) (n : ℕ) → is_some (look_in k slots store n) ≡ held_in slots n
look-held k slots store n = go (slot_for n slots)
  where
    go : (f : Option Slot) → is_some (looked k store f) ≡ is_at f
    go (Some slot) = refl
    go None = refl

-- ---- the mode, then the number
held_at : (f : Option Slot) → held_of (is_at f) ≡ done → f ≡ Some (slot_or f)
held_at (Some slot) h = refl
held_at None h = cc

-- what is answered if the checks find nothing, and back
module _ {A : Type 0} where
  pub verdict_of : (v : Verdict) (a : A) {x : Refused} → passed v a ≡ Err x → v ≡ Err x
  verdict_of (Ok u) a h = cc
  verdict_of (Err e) a h = cc

  pub answer_of : (v : Verdict) (a b : A) → passed v a ≡ Ok b → (v ≡ done) × (b ≡ a)
  answer_of (Ok u) a b h = (refl, cc)
  answer_of (Err e) a b h = cc

module _ (p : List ℕ) (slots : List Slot) where
  module _ {named : Result Slot Refused} (e : named ≡ passed (named_verdict p slots) (slot_by p slots)) where
    pub named_refused : {x : Refused} → named ≡ Err x → named_verdict p slots ≡ Err x
    named_refused h = verdict_of (named_verdict p slots) (slot_by p slots) (sym e ∙ h)

    module _ {slot : Slot} (h : named ≡ Ok slot) where
      named_done : named_verdict p slots ≡ done
      named_done = (answer_of (named_verdict p slots) (slot_by p slots) slot (sym e ∙ h)).0

      pub mode_done : at_most p 1 2 ≡ done
      unfolding named_verdict
      mode_done = first_done (at_most p 1 2) (held_of (held_in slots (word_at p 0))) named_done

      -- the slot that is handed on is the one that is held
      pub found_by : slot_for (word_at p 0) slots ≡ Some slot
      unfolding named_verdict slot_by
      found_by =
          let held = next_done (at_most p 1 2) (held_of (held_in slots (word_at p 0))) named_done in
          let s = (answer_of (named_verdict p slots) (slot_by p slots) slot (sym e ∙ h)).1 in
          rw (rw mode_done at s) (held_at (slot_for (word_at p 0) slots) held)

    -- ---- 1B
    module _ (has : ℕ → Bool) (m : List Float) (store : List ℕ) where
      go_refused : (f : Option Slot) {x : Refused} → and_then (at_most p 1 2) (held_of (is_at f)) ≡ Err x → model_verdict p has m (looked Model store f) ≡ Err x
      unfolding model_verdict
      go_refused (Some slot) k = rw (rw (and_done (at_most p 1 2)) at k)
      go_refused None k = k

      pub model_refused : {x : Refused} → named ≡ Err x → model_verdict p has m (look_in Model slots store (word_at p 0)) ≡ Err x
      unfolding named_verdict
      model_refused h = go_refused (slot_for (word_at p 0) slots) (named_refused h)

      pub model_done : {slot : Slot} → named ≡ Ok slot
          → records_verdict (word_at p 1) has m slot.width (upload_at Model slot store).words ≡ model_verdict p has m (look_in Model slots store (word_at p 0))
      unfolding model_verdict
      model_done h = rw (found_by h, mode_done h)

  -- a record's verdict, for which no corner is needed
  pub record_is : (m : List Float) {inverse : Option Matrix3} → inverse ≡ normal_matrix_of m true
      → and_then (named_verdict p slots) (textured_by p true inverse []) ≡ textured_verdict p true (held_in slots (word_at p 0)) m
  unfolding named_verdict textured_verdict
  record_is m e = rw (lit_is p m e) (and_assoc (at_most p 1 2) (held_of (held_in slots (word_at p 0))) (checked_verdict p true m))

-- ---- a model's records
-- a record, and the words behind it
module _ (front rest : List ℕ) (h : length front ≡ 28) where
  pub front_word : word_at (front ++ rest) 0 ≡ word_at front 0
  front_word = get_or-append front rest 0 0 (omega arith)

  pub front_triangle : (mode : ℕ) → triangle_of mode (front ++ rest) ≡ triangle_of mode front
  front_triangle mode =
      let one : drop 1 (front ++ rest) ≡ drop 1 front ++ rest = drop-append-le 1 front rest (omega arith) in
      let most : take 27 (drop 1 front ++ rest) ≡ take 27 (drop 1 front) = take-append-le 27 (drop 1 front) rest (omega (arith, length-drop 1 front)) in
      rw (front_word, one, most)

  pub behind : drop 28 (front ++ rest) ≡ rest
  behind = rw (← h) (drop-append_seam front rest)

  pub one_more : length (front ++ rest) / 28 ≡ suc (length rest / 28)
  one_more = omega (arith, length-append front rest)

  -- the first record, and with it those behind it
  pub records_next : (mode : ℕ) (has : ℕ → Bool) (m : List Float) → records_verdict mode has m (length (front ++ rest) / 28) (front ++ rest)
      ≡ and_then (textured_verdict (triangle_of mode front) true (has (word_at front 0)) m) (records_verdict mode has m (length rest / 28) rest)
  unfolding records_verdict
  records_next mode has m = rw (one_more, front_triangle mode, front_word, behind)

pub records_none : (mode : ℕ) (has : ℕ → Bool) (m : List Float) (words : List ℕ) → length words < 28 → records_verdict mode has m (length words / 28) words ≡ done
unfolding records_verdict
records_none mode has m words h =
    let none : length words / 28 ≡ 0 = omega arith in
    rw none

-- ---- the same by a record's number: n records, of which those from k on are left
module _ (mode : ℕ) (has : ℕ → Bool) (m : List Float) (words : List ℕ) (n : ℕ) where
  pub from_next : (k : ℕ) → k < n → records_verdict mode has m (n - k) (drop (28 * k) words)
      ≡ and_then (textured_verdict (triangle_of mode (drop (28 * k) words)) true (has (word_at (drop (28 * k) words) 0)) m) (records_verdict mode has m (n - (k + 1)) (drop (28 * (k + 1)) words))
  unfolding records_verdict
  from_next k h =
      let more : n - k ≡ suc (n - (k + 1)) = omega arith in
      let next : 28 * (k + 1) ≡ 28 * k + 28 = omega arith in
      rw (more, next) (rw (sym (drop-drop 28 (28 * k) words)))

  pub from_none : (k : ℕ) → n ≤ k → records_verdict mode has m (n - k) (drop (28 * k) words) ≡ done
  unfolding records_verdict
  from_none k h =
      let none : n - k ≡ 0 = omega arith in
      rw none

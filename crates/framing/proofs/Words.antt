-- What a word does to the framing's four numbers: case by case, and that a command begun stays one that may be. Assumes nothing.
use Prim.Native.Nat.{ℕ, ◌+◌, ◌-◌, ◌/◌, ◌%◌, ◌<◌, ◌≤◌}
use mathlib.Core.Path.{◌≡◌, refl, sym, ap, ◌∙◌}
use mathlib.Core.Bool.{Bool, true, false, ◌||◌, and-eq-true_iff, true≢false}
use mathlib.Core.List.{List}
use mathlib.Core.Logic.{◌⊎◌, inl, inr, ⊎_elim}
use native.Mathlib.Omega.{arith}
use native.Mathlib.Nat.{min-le_left, min-le_right}
use borrow.Author.Tests.{eqb-true, eqb-false, eq-eqb, ne_eqb, ltb-true, ltb-false, lt-ltb, le-ltb, leb-true, le-leb}
use lib.Dec.{eqb, ltb}
use lib.ListN.{length, set, length-set}
use Rattle.verdict.specs.declared.Reason.TheVariants.{ZeroOpcode, CountTooLarge}
use Rattle.state.specs.State.{most_payload, begun_ok}
use Rattle.framing.specs.declared.Frame.{Frame}
use Rattle.framing.specs.Frames.{frame, dropped_frame, header_frame, word_frame, word_area, ready_of, between_of}

-- ---- no command is begun, or one that wants more words
pub record Idle (opcode gathered wanted : ℕ) : Type 0 where
  pub no_opcode : opcode ≡ 0
  pub no_words : gathered ≡ 0
  pub none-wanted : wanted ≡ 0

pub record Gathering (opcode gathered wanted : ℕ) : Type 0 where
  pub some_opcode : 0 < opcode
  pub one_byte : opcode ≤ 255
  pub some_wanted : 0 < wanted
  pub fits : gathered + wanted ≤ most_payload

either : (a b : Bool) → (a || b) ≡ true → (a ≡ true) ⊎ (b ≡ true)
either true b h = inl refl
either false b h = inr h

module _ (o g w : ℕ) where
  begun_cases : begun_ok o g w ≡ true → Idle o g w ⊎ Gathering o g w
  unfolding begun_ok
  begun_cases e =
      ⊎_elim
      (λ h.
      let a = (and-eq-true_iff _ _).0 h in
      let b = (and-eq-true_iff _ _).0 a.1 in
      inl (record { no_opcode = eqb-true _ _ a.0; no_words = eqb-true _ _ b.0; none-wanted = eqb-true _ _ b.1 }))
      (λ h.
      let a = (and-eq-true_iff _ _).0 h in
      let b = (and-eq-true_iff _ _).0 a.0 in
      let d = (and-eq-true_iff _ _).0 a.1 in
      inr (record { some_opcode = ltb-true _ _ b.0; one_byte = leb-true _ _ b.1; some_wanted = ltb-true _ _ d.0; fits = leb-true _ _ d.1 }))
      (either _ _ e)

  module _ (ok : begun_ok o g w ≡ true) where
    pub idle : w ≡ 0 → Idle o g w
    idle z = ⊎_elim (λ i. i) (λ h. absurd (omega arith)) (begun_cases ok)

    pub gathering : (w ≡ 0 → ⊥) → Gathering o g w
    gathering z = ⊎_elim (λ i. absurd (z i.none-wanted)) (λ h. h) (begun_cases ok)

    pub begun-fits : g + w ≤ most_payload
    begun-fits = ⊎_elim (λ i. omega arith) (λ h. omega arith) (begun_cases ok)

  pub gathering_ok : Gathering o g w → begun_ok o g w ≡ true
  unfolding begun_ok
  gathering_ok h =
      let n : o ≡ 0 → ⊥ = λ z. omega arith in
      rw (ne_eqb o 0 n, lt-ltb 0 o h.some_opcode, le-leb o 255 h.one_byte, lt-ltb 0 w h.some_wanted, le-leb (g + w) most_payload h.fits)

-- ---- the frame and the command area after a word
module _ (f : Frame) (w : ℕ) where
  pub header-zero : w / 16777216 ≡ 0 → header_frame f w ≡ dropped_frame f (w / 16777216) ZeroOpcode
  unfolding header_frame
  header-zero e = rw (eq-eqb (w / 16777216) 0 e)

  pub header_many : (w / 16777216 ≡ 0 → ⊥) → most_payload < w % 16777216 → header_frame f w ≡ dropped_frame f (w / 16777216) CountTooLarge
  unfolding header_frame
  header_many e h = rw (ne_eqb (w / 16777216) 0 e, lt-ltb most_payload (w % 16777216) h)

  pub header-begun : (w / 16777216 ≡ 0 → ⊥) → w % 16777216 ≤ most_payload → header_frame f w ≡ frame (w / 16777216) f.gathered (w % 16777216) f.notes
  unfolding header_frame
  header-begun e h = rw (ne_eqb (w / 16777216) 0 e, le-ltb most_payload (w % 16777216) h)

  pub word-header : f.wanted ≡ 0 → word_frame f w ≡ header_frame f w
  unfolding word_frame
  word-header e = rw (eq-eqb f.wanted 0 e)

  pub word-payload : (f.wanted ≡ 0 → ⊥) → word_frame f w ≡ frame f.opcode (f.gathered + 1) (f.wanted - 1) f.notes
  unfolding word_frame
  word-payload e = rw (ne_eqb f.wanted 0 e)

  pub area-header : (C : List ℕ) → f.wanted ≡ 0 → word_area f w C ≡ C
  unfolding word_area
  area-header C e = rw (eq-eqb f.wanted 0 e)

  pub area-payload : (C : List ℕ) → (f.wanted ≡ 0 → ⊥) → word_area f w C ≡ set C f.gathered w
  unfolding word_area
  area-payload C e = rw (ne_eqb f.wanted 0 e)

  pub area-length : (C : List ℕ) → length (word_area f w C) ≡ length C
  area-length C = go (eqb f.wanted 0) refl
    where
      go : (b : Bool) → eqb f.wanted 0 ≡ b → length (word_area f w C) ≡ length C
      go true e = ap length (area-header C (eqb-true _ _ e))
      go false e = ap length (area-payload C (eqb-false _ _ e)) ∙ length-set C f.gathered w

module _ (f : Frame) where
  pub ready_idle : f.wanted ≡ 0 → f.opcode ≡ 0 → ready_of f ≡ false
  unfolding ready_of
  ready_idle e o = rw (eq-eqb f.wanted 0 e, eq-eqb f.opcode 0 o)

  pub ready_whole : f.wanted ≡ 0 → (f.opcode ≡ 0 → ⊥) → ready_of f ≡ true
  unfolding ready_of
  ready_whole e o = rw (eq-eqb f.wanted 0 e, ne_eqb f.opcode 0 o)

  pub ready_wanting : (f.wanted ≡ 0 → ⊥) → ready_of f ≡ false
  unfolding ready_of
  ready_wanting e = rw (ne_eqb f.wanted 0 e)

-- a run leaves the last word wanted, and is no longer than what is there
pub record Between (f : Frame) (left n : ℕ) : Type 0 where
  pub before_last : n ≤ f.wanted - 1
  pub there : n ≤ left

pub between-fits : (f : Frame) (left n : ℕ) → n ≡ between_of f left → Between f left n
between-fits f left n e = rw e (record { before_last = min-le_right left (f.wanted - 1); there = min-le_left left (f.wanted - 1) })

-- ---- the cases of a word. Headers: dropped for either reason, run at once, begun. Payload: the last word, or one of those before
pub data Case (f : Frame) (w : ℕ) : Type 0 where
  zero-opcode : f.wanted ≡ 0 → w / 16777216 ≡ 0 → Case f w
  too_many : f.wanted ≡ 0 → (w / 16777216 ≡ 0 → ⊥) → most_payload < w % 16777216 → Case f w
  at_once : f.wanted ≡ 0 → (w / 16777216 ≡ 0 → ⊥) → w % 16777216 ≡ 0 → Case f w
  begins : f.wanted ≡ 0 → (w / 16777216 ≡ 0 → ⊥) → w % 16777216 ≤ most_payload → (w % 16777216 ≡ 0 → ⊥) → Case f w
  last : f.wanted ≡ 1 → Case f w
  more : 1 < f.wanted → Case f w

pub case_of : (f : Frame) (w : ℕ) → Case f w
case_of f w = go (eqb f.wanted 0) refl
  where
    count : f.wanted ≡ 0 → (w / 16777216 ≡ 0 → ⊥) → w % 16777216 ≤ most_payload → (b : Bool) → eqb (w % 16777216) 0 ≡ b → Case f w
    count e o n true z = at_once e o (eqb-true _ _ z)
    count e o n false z = begins e o n (eqb-false _ _ z)

    many : f.wanted ≡ 0 → (w / 16777216 ≡ 0 → ⊥) → (b : Bool) → ltb most_payload (w % 16777216) ≡ b → Case f w
    many e o true l = too_many e o (ltb-true _ _ l)
    many e o false l = count e o (ltb-false _ _ l) (eqb (w % 16777216) 0) refl

    opcode : f.wanted ≡ 0 → (b : Bool) → eqb (w / 16777216) 0 ≡ b → Case f w
    opcode e true z = zero-opcode e (eqb-true _ _ z)
    opcode e false z = many e (eqb-false _ _ z) (ltb most_payload (w % 16777216)) refl

    payload : (f.wanted ≡ 0 → ⊥) → (b : Bool) → eqb f.wanted 1 ≡ b → Case f w
    payload n true z = last (eqb-true _ _ z)
    payload n false z =
        let one : f.wanted ≡ 1 → ⊥ = eqb-false _ _ z in
        more (omega arith)

    go : (b : Bool) → eqb f.wanted 0 ≡ b → Case f w
    go true e = opcode (eqb-true _ _ e) (eqb (w / 16777216) 0) refl
    go false e = payload (eqb-false _ _ e) (eqb f.wanted 1) refl

module _ (f : Frame) (w : ℕ) where
  pub case_zero : f.wanted ≡ 0 → w / 16777216 ≡ 0 → word_frame f w ≡ dropped_frame f (w / 16777216) ZeroOpcode
  case_zero e z = word-header f w e ∙ header-zero f w z

  pub case_many : f.wanted ≡ 0 → (w / 16777216 ≡ 0 → ⊥) → most_payload < w % 16777216 → word_frame f w ≡ dropped_frame f (w / 16777216) CountTooLarge
  case_many e o n = word-header f w e ∙ header_many f w o n

  pub case_begun : f.wanted ≡ 0 → (w / 16777216 ≡ 0 → ⊥) → w % 16777216 ≤ most_payload → word_frame f w ≡ frame (w / 16777216) f.gathered (w % 16777216) f.notes
  case_begun e o n = word-header f w e ∙ header-begun f w o n

  module _ (ok : begun_ok f.opcode f.gathered f.wanted ≡ true) where
    -- the payload so far, and what is missing, fit the command area
    pub word_fits : (word_frame f w).gathered + (word_frame f w).wanted ≤ most_payload
    word_fits = go (case_of f w)
      where
        go : Case f w → (word_frame f w).gathered + (word_frame f w).wanted ≤ most_payload
        go (zero-opcode e z) = rw (case_zero e z) (begun-fits _ _ _ ok)
        go (too_many e o n) = rw (case_many e o n) (begun-fits _ _ _ ok)
        go (at_once e o z) =
            let n : w % 16777216 ≤ most_payload = omega arith in
            let i = idle _ _ _ ok e in
            rw (case_begun e o n) (omega arith)
        go (begins e o n z) =
            let i = idle _ _ _ ok e in
            rw (case_begun e o n) (omega arith)
        go (last e) =
            let n : f.wanted ≡ 0 → ⊥ = λ z. omega arith in
            let h = begun-fits _ _ _ ok in
            rw (word-payload f w n) (omega arith)
        go (more e) =
            let n : f.wanted ≡ 0 → ⊥ = λ z. omega arith in
            let h = begun-fits _ _ _ ok in
            rw (word-payload f w n) (omega arith)

    -- if no command is to be run, what is begun may be begun
    pub word-begun : w < 4294967296 → ready_of (word_frame f w) ≡ false → begun_ok (word_frame f w).opcode (word_frame f w).gathered (word_frame f w).wanted ≡ true
    word-begun l r = go (case_of f w)
      where
        go : Case f w → begun_ok (word_frame f w).opcode (word_frame f w).gathered (word_frame f w).wanted ≡ true
        go (zero-opcode e z) = rw (case_zero e z) ok
        go (too_many e o n) = rw (case_many e o n) ok
        go (at_once e o z) =
            let n : w % 16777216 ≤ most_payload = omega arith in
            absurd (true≢false (sym (ready_whole _ z o) ∙ (rw (case_begun e o n) at r)))
        go (begins e o n z) =
            let i = idle _ _ _ ok e in
            rw (case_begun e o n)
            (gathering_ok _ _ _ (record { some_opcode = omega arith; one_byte = omega arith; some_wanted = omega arith; fits = omega arith }))
        go (last e) =
            let n : f.wanted ≡ 0 → ⊥ = λ z. omega arith in
            let g = gathering _ _ _ ok n in
            let o : f.opcode ≡ 0 → ⊥ = λ z. omega arith in
            let z : f.wanted - 1 ≡ 0 = omega arith in
            absurd (true≢false (sym (ready_whole _ z o) ∙ (rw (word-payload f w n) at r)))
        go (more e) =
            let n : f.wanted ≡ 0 → ⊥ = λ z. omega arith in
            let g = gathering _ _ _ ok n in
            rw (word-payload f w n)
            (gathering_ok _ _ _ (record { some_opcode = omega arith; one_byte = omega arith; some_wanted = omega arith; fits = omega arith }))

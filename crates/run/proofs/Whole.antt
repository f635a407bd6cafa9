-- A whole command's words run it: from a machine at a header, whatever way uploads are kept, header and payload are one `execute` of the begun control with that payload added. By a turn of `run` for each word: the header begins, a payload word is added, and the last one executes. Assumes nothing.
use Prim.Native.Nat.{ℕ, suc, ◌+◌, ◌-◌, ◌*◌, ◌/◌, ◌%◌, ◌<◌, ◌≤◌}
use mathlib.Core.Path.{◌≡◌, refl, ap, ◌∙◌}
use mathlib.Core.List.{List, [], ◌∷◌, ◌++◌}
use native.Mathlib.Omega.{arith}
use native.Mathlib.Nat.{add-zero, zero-add}
use native.Mathlib.Numerals.{add-one}
use borrow.Author.Tests.{eq-eqb, ne_eqb, le-ltb}
use lib.ListN.{length, drop, set}
use lib.Seq.{sets, sets-eq, take_at}
use Rattle.state.specs.State.{most_payload}
use Rattle.execute.specs.Paints.{paints_on}
use Rattle.execute.specs.Control.{Keep, Control, Seen, stepped, execute, executed}
use Rattle.execute.specs.Kept.{Shelf, Box, box, as_box}
use Rattle.run.specs.Framing.{header, gather, word, word_on, run}
use Rattle.run.specs.Whole.{command_words, added, complete}

-- a header's parts
header-opcode : (op n : ℕ) → n ≤ most_payload → (op * 16777216 + n) / 16777216 ≡ op
header-opcode op n h = omega arith

header_count : (op n : ℕ) → n ≤ most_payload → (op * 16777216 + n) % 16777216 ≡ n
header_count op n h = omega arith

module _ {X : Type 0} (K : Keep X) where
  -- a machine with the command op begun, n words of it wanted still, and the box x
  abbrev pub gathering : Seen X → ℕ → ℕ → X → Seen X
  gathering m op n x = record {
    control = record { settings = m.control.settings; notes = m.control.notes; opcode = op; wanted = n; box = x };
    picture = m.picture;
  }

  pub run-first : (m : Seen X) (w : ℕ) (ws : List ℕ) → run K m (w ∷ ws) ≡ run K (word_on K m w) ws
  unfolding run
  run-first m w ws = refl

  -- ---- the header
  module _ (m : Seen X) (op n : ℕ) (at-header : m.control.wanted ≡ 0) (some_opcode : 0 < op) (few : n ≤ most_payload) where
    is-header : word K m.control (op * 16777216 + n) ≡ header K m.control op n
    unfolding word
    is-header = rw (eq-eqb m.control.wanted 0 at-header, header-opcode op n few, header_count op n few)

    no_zero : op ≡ 0 → ⊥
    no_zero e = omega arith

    pub header_begins : (n ≡ 0 → ⊥) → word_on K m (op * 16777216 + n) ≡ gathering m op n m.control.box
    unfolding header paints_on
    header_begins some = rw (is-header, ne_eqb op 0 no_zero, le-ltb most_payload n few, ne_eqb n 0 some)

    pub header_runs : n ≡ 0 → word_on K m (op * 16777216 + n) ≡ executed K (gathering m op 0 m.control.box)
    unfolding header
    header_runs none = rw (is-header, ne_eqb op 0 no_zero, le-ltb most_payload n few, eq-eqb n 0 none)

  -- ---- the payload
  gathers_more : (m : Seen X) (op n : ℕ) (x : X) (w : ℕ) → word_on K (gathering m op (suc (suc n)) x) w ≡ gathering m op (suc n) (K.add w x)
  unfolding word gather paints_on
  gathers_more m op n x w =
      let some : suc (suc n) ≡ 0 → ⊥ = λ e. omega arith in
      let more : suc (suc n) ≡ 1 → ⊥ = λ e. omega arith in
      let less : suc (suc n) - 1 ≡ suc n = omega arith in
      rw (ne_eqb (suc (suc n)) 0 some, ne_eqb (suc (suc n)) 1 more, less)

  gathers_last : (m : Seen X) (op : ℕ) (x : X) (w : ℕ) → word_on K (gathering m op 1 x) w ≡ executed K (gathering m op 0 (K.add w x))
  unfolding word gather
  gathers_last m op x w = refl

  pub gathers_all : (m : Seen X) (op : ℕ) (x : X) (w : ℕ) (ws rest : List ℕ)
      → run K (gathering m op (length (w ∷ ws)) x) ((w ∷ ws) ++ rest) ≡ run K (executed K (gathering m op 0 (added K x (w ∷ ws)))) rest
  gathers_all m op x w [] rest = run-first _ w rest ∙ ap (λ (n : Seen X). run K n rest) (gathers_last m op x w)
  gathers_all m op x w (v ∷ ws) rest =
      run-first _ w ((v ∷ ws) ++ rest) ∙ ap (λ (n : Seen X). run K n ((v ∷ ws) ++ rest)) (gathers_more m op (length ws) x w) ∙ gathers_all m op (K.add w x) v ws rest

  -- ---- header and payload. In a word of 32 bits the opcode is 1 to 255; a payload of no words is run at once, by the same equation
  pub whole_runs : (m : Seen X) (op : ℕ) (payload rest : List ℕ) → m.control.wanted ≡ 0 → 0 < op → length payload ≤ most_payload
      → run K m (command_words op payload ++ rest) ≡ run K (stepped (execute K (complete K m.control op payload)) m.picture) rest
  whole_runs m op [] rest z o h = run-first m _ rest ∙ ap (λ (n : Seen X). run K n rest) (header_runs m op 0 z o h refl)
  whole_runs m op (w ∷ ws) rest z o h =
      run-first m _ ((w ∷ ws) ++ rest) ∙ ap (λ (n : Seen X). run K n ((w ∷ ws) ++ rest)) (header_begins m op (length (w ∷ ws)) z o h (λ e. omega arith))
      ∙ gathers_all m op m.control.box w ws rest

  -- and the next word is a header again
  pub whole_ends : (c : Control X) (op : ℕ) (payload : List ℕ) → (execute K (complete K c op payload)).control.wanted ≡ 0
  unfolding execute
  whole_ends c op payload = refl

-- ---- for the machine itself: the payload that `execute` reads then is the one that was sent
added-box : (t m : Shelf) (C : List ℕ) (g : ℕ) (ws : List ℕ) → added as_box (box t m C g) ws ≡ box t m (sets C g ws) (g + length ws)
added-box t m C g [] = rw add-zero
added-box t m C g (w ∷ ws) =
    let sum : suc g + length ws ≡ g + suc (length ws) = omega arith in
    rw (add-one, added-box t m (set C g w) (suc g) ws, sum)

pub added-payload : (b : Box) (payload : List ℕ) → b.gathered ≡ 0 → length payload ≤ length b.area → as_box.payload (added as_box b payload) ≡ payload
added-payload b payload z h =
    rw (z, added-box b.textures b.models b.area 0 payload, zero-add, sets-eq payload b.area 0 (omega arith))
    (take_at payload (drop (0 + length payload) b.area) (length payload) refl)

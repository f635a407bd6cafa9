-- What demand 3 says about a history: a draw gets the last accepted upload of its kind under its number, it is refused for want of one exactly if there is none, and the store rule decides whether there is room. Definitions only.
use Rattle.std.specs.Prelude.{ℕ, zero, suc, ◌*◌, ◌≤◌, ◌<◌, ◌≡◌, Bool, List, [], ◌∷◌, ◌++◌, map, length, drop, Result, ⊤}
use Rattle.verdict.specs.Verdict.{Verdict, done, refused}
use Rattle.std.proofs.Math.Option.{Option, none, some}
use Rattle.std.specs.Int.Bits.{bit_or}
use Rattle.verdict.specs.Verdict.{bits_of}
use Rattle.verdict.specs.declared.Reason.TheVariants.{NotHeld}
use Rattle.payload.specs.Words.{and_then, word_at}
use Rattle.settings.specs.declared.Settings.{Settings}
use Rattle.store.specs.declared.Kind.{Kind}
use Rattle.store.specs.declared.NoRoom.{NoRoom}
use Rattle.store.specs.Uploads.{Whole, cards, live, room}
use Rattle.decide.specs.Verdicts.{triangle_of}
use Rattle.draw.specs.Draws.{textured_strokes}
use Rattle.execute.specs.Paints.{Paint, stroked}
use Rattle.execute.specs.Commands.{Look, Load, Told, tells, sprite_paints, told}
use Rattle.claims.specs.Plain.{Past, history}

-- ---- the last accepted upload of a kind under a number
-- none of these has the number n
pub data Apart (n : ℕ) : List Whole → Type 0 where
  none_left : Apart n []
  another : {u : Whole} {us : List Whole} → (u.number ≡ n → ⊥) → Apart n us → Apart n (u ∷ us)

-- u is the newest under n, in a history that has its newest first
pub record Last (n : ℕ) (h : List Whole) (u : Whole) : Type 0 where
  pub newer : List Whole
  pub older : List Whole
  pub is : h ≡ newer ++ (u ∷ older)
  pub number : u.number ≡ n
  pub apart : Apart n newer

-- what is found is that one, or there is none
abbrev pub Finds : ℕ → List Whole → Option Whole → Type 0
Finds n h none = Apart n h
Finds n h (some u) = Last n h u

-- ---- what a textured triangle says: 18, or 19 if it has normals, with the words p. `found`: what the history has under its number
pub record Draws (found : Option Whole) (s : Settings) (p : List ℕ) (normal : Bool) (t : Told) : Type 0 where
  -- refused for want of one exactly if there is none
  pub wanting : found ≡ none → t.verdict ≡ refused NotHeld 0
  pub only : (i : ℕ) → t.verdict ≡ refused NotHeld i → found ≡ none
  -- it gets the last accepted upload
  pub gets : t.paints ≡ map stroked (textured_strokes s p normal found)

-- ---- what a sprite says: 10, with the words p
pub record Copies (found : Option Whole) (p : List ℕ) (t : Told) : Type 0 where
  -- refused for want of one exactly if there is none
  pub wanting : found ≡ none → t.verdict ≡ refused NotHeld 0
  pub only : (i : ℕ) → t.verdict ≡ refused NotHeld i → found ≡ none
  -- it gets the last accepted upload
  pub gets : t.paints ≡ sprite_paints p found

-- ---- 1B: a model is drawn as so many 19s
-- record i of a model's words, with the draw's mode: each record of 28 words becomes a 29-word triangle
abbrev pub record_at : ℕ → List ℕ → ℕ → List ℕ
record_at mode words i = triangle_of mode (drop (28 * i) words)

-- what n of them say, from number i on: the first refusal, and all that they paint
abbrev pub first_refused : (ℕ → Told) → ℕ → ℕ → Verdict
first_refused tell i zero = done
first_refused tell i (suc n) = and_then (tell i).verdict (first_refused tell (suc i) n)

abbrev pub all_painted : (ℕ → Told) → ℕ → ℕ → List Paint
all_painted tell i zero = []
all_painted tell i (suc n) = (tell i).paints ++ all_painted tell (suc i) n

-- what record i of the model u says as a 19, if 1B has the words p
abbrev pub record_told : Look → Settings → List ℕ → Whole → ℕ → Told
record_told look s p u i = told look s 0x19 (record_at (word_at p 1) u.words i)

-- rule 3.15: what 1B with the words p says if the model u is held under its number
pub record Records (look : Look) (s : Settings) (p : List ℕ) (u : Whole) (t : Told) : Type 0 where
  pub whole : (i : ℕ) → i < u.wide → length (record_at (word_at p 1) u.words i) ≡ 29
  pub is : t ≡ tells (first_refused (record_told look s p u) 0 u.wide) s (all_painted (record_told look s p u) 0 u.wide)

-- ---- no room
-- rule 8.5 over the history, for an upload
abbrev pub ruled : (Kind → ℕ) → Past → Load → Result ⊤ NoRoom
ruled size h l = room (size l.kind) (cards (live (history h l.kind))) l.whole.number (length l.whole.words)

-- the status after a verdict that is not of a full store: it sets at most a bit of value 8, so not bit 6
pub record Lower (before after : ℕ) : Type 0 where
  pub verdict : Verdict
  pub low : bits_of verdict ≤ 8
  pub is : after ≡ bit_or before (bits_of verdict)

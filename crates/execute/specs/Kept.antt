-- The machine as it is: uploads in slots over lent words, a payload in the lent command area; and what a call is lent, as one machine (rule 1.3). Definitions only.
use Rattle.std.specs.Prelude.{ℕ, ◌+◌, ◌≤◌, ◌≡◌, true, cond, List, ℤ, length, take, set, Float, Result, ⊤}
use Rattle.verdict.specs.Verdict.{Verdict, when_done, noted_of}
use Rattle.verdict.specs.declared.Refused.{Refused}
use Rattle.settings.specs.declared.Settings.{Settings}
use Rattle.store.specs.declared.Slot.{Slot}
use Rattle.store.specs.declared.Kind.{Kind}
use Rattle.store.specs.declared.Kind.TheVariants.{Texture, Model}
use Rattle.store.specs.declared.NoRoom.{NoRoom}
use Rattle.store.specs.Uploads.{Whole, card, room, most_words}
use Rattle.store.specs.Slots.{told, view, look_in, slots_after, words_after, slots_ok, is_fits}
use Rattle.state.specs.declared.State.{State}
use Rattle.execute.specs.Paints.{picture}
use Rattle.execute.specs.Commands.{Look, Load, verdict_by, value_or}
use Rattle.execute.specs.Control.{Keep, Control, Seen, room_verdict}

-- one store: its slots, and the words lent for it
pub record Shelf : Type 0 where
  pub slots : List Slot
  pub words : List ℕ

abbrev pub shelf : List Slot → List ℕ → Shelf
shelf ss ws = record { slots = ss; words = ws }

abbrev pub room_on : Kind → Shelf → Whole → Result ⊤ NoRoom
room_on k s u = room (length s.words) (told k s.slots) u.number (length u.words)

abbrev pub put_on : Kind → Shelf → Whole → Shelf
put_on k s u = shelf (slots_after (card u) (told k s.slots)) (words_after u.number u.words (view k s.slots s.words) s.words)

-- what an upload comes to, and the store after it
pub record Shelved : Type 0 where
  pub verdict : Verdict
  pub shelf : Shelf

abbrev pub shelved : Verdict → Shelf → Shelved
shelved v s = record { verdict = v; shelf = s }

-- the same, by what an upload answers, its store's slots before it and its store's words after it
abbrev pub shelved_by : List Slot → Result (List Slot) Refused → List ℕ → Shelved
shelved_by ss r ws = shelved (verdict_by r) (shelf (value_or ss r) ws)

-- for an upload that passed its checks, and for one whose checks came to v
unfoldable pub kept_on : Kind → Shelf → Whole → Shelved
kept_on k s u = shelved (room_verdict (room_on k s u)) (cond (is_fits (room_on k s u)) (put_on k s u) s)

unfoldable pub loaded_on : Verdict → Load → Shelf → Shelved
loaded_on v l s = when_done v (kept_on l.kind s l.whole) (shelved v s)

-- a store of n words, whose slots are well formed
pub record Formed (k : Kind) (slots : List Slot) (n : ℕ) : Type 0 where
  pub ok : slots_ok k n 0 slots ≡ true
  pub few : n ≤ most_words

-- what two stores have under a number
abbrev pub look_on : Shelf → Shelf → Look
look_on t m Texture n = look_in Texture t.slots t.words n
look_on t m Model n = look_in Model m.slots m.words n

-- both stores, the command area and how many words of it are the payload's
pub record Box : Type 0 where
  pub textures : Shelf
  pub models : Shelf
  pub area : List ℕ
  pub gathered : ℕ

abbrev pub box : Shelf → Shelf → List ℕ → ℕ → Box
box t m a g = record { textures = t; models = m; area = a; gathered = g }

abbrev pub shelf_of : Box → Kind → Shelf
shelf_of b Texture = b.textures
shelf_of b Model = b.models

abbrev pub put_box : Box → Kind → Whole → Box
put_box b Texture u = box (put_on Texture b.textures u) b.models b.area b.gathered
put_box b Model u = box b.textures (put_on Model b.models u) b.area b.gathered

-- rule 2.5: payload words go into the command area from its start, and the rest of it stays
abbrev pub as_box : Keep Box
as_box = record {
  look = λ b. look_on b.textures b.models;
  room = λ b l. room_on l.kind (shelf_of b l.kind) l.whole;
  put = λ b l. put_box b l.kind l.whole;
  payload = λ b. take b.gathered b.area;
  add = λ w b. box b.textures b.models (set b.area b.gathered w) (b.gathered + 1);
  clear = λ b. box b.textures b.models b.area 0;
}

-- ---- the state and the lent memory, as one machine
abbrev pub Machine : Type 0
Machine = Seen Box

-- a state with the command area C, the textures' words T and the models' words M
abbrev pub control_of : State → List ℕ → List ℕ → List ℕ → Control Box
control_of s C T M = record {
  settings = s.settings;
  notes = s.notes;
  opcode = s.opcode;
  wanted = s.wanted;
  box = box (shelf s.textures T) (shelf s.models M) C s.gathered;
}

-- and with the plane P, the integer depths D and the float depths F
abbrev pub machine : State → List ℕ → List ℤ → List Float → List ℕ → List ℕ → List ℕ → Machine
machine s P D F C T M = record { control = control_of s C T M; picture = picture P D F }

-- the state in a machine
abbrev pub state_of : Machine → State
state_of m = record {
  settings = m.control.settings;
  textures = m.control.box.textures.slots;
  models = m.control.box.models.slots;
  opcode = m.control.opcode;
  gathered = m.control.box.gathered;
  wanted = m.control.wanted;
  notes = m.control.notes;
}

-- the state after a command that came to v
abbrev pub ended_state : State → Settings → List Slot → List Slot → Verdict → State
ended_state s settings textures models v = record {
  settings = settings;
  textures = textures;
  models = models;
  opcode = 0;
  gathered = 0;
  wanted = 0;
  notes = noted_of s.notes s.opcode v;
}

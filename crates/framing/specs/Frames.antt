-- The framing's four numbers by themselves, as the code carries them through payload words; `run/specs/Framing.antt` is what a word does. Definitions only.
use Rattle.std.specs.Prelude.{ℕ, ◌+◌, ◌-◌, ◌/◌, ◌%◌, min, Bool, false, cond, not, List, eqb, ltb, set}
use Rattle.verdict.specs.Verdict.{Verdict, refused, noted_of}
use Rattle.verdict.specs.declared.Notes.{Notes}
use Rattle.verdict.specs.declared.Reason.{Reason}
use Rattle.verdict.specs.declared.Reason.TheVariants.{ZeroOpcode, CountTooLarge}
use Rattle.state.specs.State.{most_payload}
use Rattle.state.specs.declared.State.{State}
use Rattle.framing.specs.declared.Frame.{Frame}

abbrev pub frame : ℕ → ℕ → ℕ → Notes → Frame
frame o g w n = record { opcode = o; gathered = g; wanted = w; notes = n }

abbrev pub frame_of : State → Frame
frame_of s = frame s.opcode s.gathered s.wanted s.notes

abbrev pub with_frame : State → Frame → State
with_frame s f = record {
  settings = s.settings;
  textures = s.textures;
  models = s.models;
  opcode = f.opcode;
  gathered = f.gathered;
  wanted = f.wanted;
  notes = f.notes;
}

-- the frame after a header of this opcode is dropped, and after a command has ended
abbrev pub dropped_frame : Frame → ℕ → Reason → Frame
dropped_frame f op r = frame f.opcode f.gathered f.wanted (noted_of f.notes op (refused r 0))

abbrev pub ended_frame : Frame → Verdict → Frame
ended_frame f v = frame 0 0 0 (noted_of f.notes f.opcode v)

unfoldable pub header_frame : Frame → ℕ → Frame
header_frame f w =
    cond (eqb (w / 16777216) 0) (dropped_frame f (w / 16777216) ZeroOpcode)
    (cond (ltb most_payload (w % 16777216)) (dropped_frame f (w / 16777216) CountTooLarge) (frame (w / 16777216) f.gathered (w % 16777216) f.notes))

unfoldable pub word_frame : Frame → ℕ → Frame
word_frame f w = cond (eqb f.wanted 0) (header_frame f w) (frame f.opcode (f.gathered + 1) (f.wanted - 1) f.notes)

unfoldable pub word_area : Frame → ℕ → List ℕ → List ℕ
word_area f w area = cond (eqb f.wanted 0) area (set area f.gathered w)

-- how many of the words left are payload before the last one wanted; and the frame after n payload words
abbrev pub between_of : Frame → ℕ → ℕ
between_of f left = min left (f.wanted - 1)

abbrev pub gathered_frame : Frame → ℕ → Frame
gathered_frame f n = frame f.opcode (f.gathered + n) (f.wanted - n) f.notes

-- a command is begun and its payload is complete
unfoldable pub ready_of : Frame → Bool
ready_of f = cond (eqb f.wanted 0) (not (eqb f.opcode 0)) false

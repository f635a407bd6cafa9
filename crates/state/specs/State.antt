-- The machine's small state, the fresh one, and when a state is well formed. Definitions only.
use Rattle.std.specs.Prelude.{ℕ, ◌+◌, Bool, ◌&&◌, ◌||◌, eqb, leb, ltb, replicate}
use Rattle.verdict.specs.Verdict.{no_notes}
use Rattle.settings.specs.Settings as settings
use Rattle.store.specs.Uploads.{slot_count}
use Rattle.store.specs.Slots.{no_slot, slots_ok}
use Rattle.store.specs.declared.Kind.TheVariants.{Texture, Model}
use Rattle.state.specs.declared.State.{State}

-- rule 1.4: the words of the command area, and the most payload words of a command
abbrev pub most_payload : ℕ
most_payload = 524291

-- rule 1.9: fresh settings, no uploads, no command begun, and nothing refused
abbrev pub fresh : State
fresh = record {
  settings = settings.fresh;
  textures = replicate slot_count no_slot;
  models = replicate slot_count no_slot;
  opcode = 0;
  gathered = 0;
  wanted = 0;
  notes = no_notes;
}

-- rule 1.11
unfoldable pub begun_ok : ℕ → ℕ → ℕ → Bool
begun_ok opcode gathered wanted =
    (eqb opcode 0 && (eqb gathered 0 && eqb wanted 0))
    || ((ltb 0 opcode && leb opcode 255) && (ltb 0 wanted && leb (gathered + wanted) most_payload))

-- rule 1.13, with stores of these lengths
unfoldable pub well_formed : State → ℕ → ℕ → Bool
well_formed s textures models =
    settings.settings_ok s.settings
    && (begun_ok s.opcode s.gathered s.wanted
    && (slots_ok Texture textures 0 s.textures && slots_ok Model models 0 s.models))

-- The draws that ask for an upload, decided by words, matrices and slots: no texel is asked for. Definitions only.
use Rattle.std.specs.Prelude.{ℕ, Bool, true, false, List, Float, Option, Some, None, Result, Err}
use Rattle.std.proofs.Math.Option as past
use Rattle.std.proofs.Math.Option.{none, some}
use Rattle.store.specs.Uploads.{Whole}
use Rattle.store.specs.Slots.{no_slot, slot_for}
use Rattle.store.specs.declared.Slot.{Slot}
use Rattle.verdict.specs.declared.Reason.TheVariants.{NotHeld}
use Rattle.verdict.specs.declared.Refused.{Refused}
use Rattle.verdict.specs.Verdict.{Verdict, because, passed}
use Rattle.payload.specs.Words.{and_then, when_done, word_at, at_most}
use Rattle.decide.specs.Corners.{corners_of}
use Rattle.decide.specs.Verdicts.{held_of, textured_verdict, records_verdict}
use Rattle.judge.specs.declared.Judged.{Judged}

-- ---- is a number held? The slots alone decide
abbrev pub is_at : Option Slot → Bool
is_at (Some slot) = true
is_at None = false

abbrev pub held_in : List Slot → ℕ → Bool
held_in slots n = is_at (slot_for n slots)

-- 18, 19 and 1B test the mode (index 1) before the number (index 0)
unfoldable pub named_verdict : List ℕ → List Slot → Verdict
named_verdict p slots = and_then (at_most p 1 2) (held_of (held_in slots (word_at p 0)))

-- the slot under the number; if there is none, an unused one, which `passed` leaves out
abbrev pub slot_or : Option Slot → Slot
slot_or (Some slot) = slot
slot_or None = no_slot

unfoldable pub slot_by : List ℕ → List Slot → Slot
slot_by p slots = when_done (at_most p 1 2) (slot_or (slot_for (word_at p 0) slots)) no_slot

-- 18 and 19, with that slot: what is lit and painted, if the checks find nothing
unfoldable pub judged_by : List ℕ → Bool → List Float → List Slot → Result Judged Refused
judged_by p normal m slots =
    passed (textured_verdict p normal (held_in slots (word_at p 0)) m) (record { slot = slot_by p slots; corners = corners_of p normal true m })

-- ---- rule 3.15: 1B, with the model that is held under word 0, if one is
unfoldable pub model_verdict : List ℕ → (ℕ → Bool) → List Float → past.Option Whole → Verdict
model_verdict p has m none = and_then (at_most p 1 2) (Err (because NotHeld 0))
model_verdict p has m (some u) = and_then (at_most p 1 2) (records_verdict (word_at p 1) has m u.wide u.words)

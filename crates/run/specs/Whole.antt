-- A whole command in the words: its header, then its payload. `proofs/Whole.antt` says what running them comes to. Definitions only.
use Rattle.std.specs.Prelude.{ℕ, ◌+◌, ◌*◌, length}
use mathlib.Core.List.{List, ◌∷◌, foldl}
use Rattle.execute.specs.Control.{Keep, Control}

-- rule 2.1: the header, then as many payload words as it says
abbrev pub command_words : ℕ → List ℕ → List ℕ
command_words op payload = (op * 16777216 + length payload) ∷ payload

module _ {X : Type 0} (K : Keep X) where
  -- these payload words, added one after the other
  abbrev pub added : X → List ℕ → X
  added = foldl (λ x w. K.add w x)

  -- that command begun, and its payload complete: what `execute` is given then
  abbrev pub complete : Control X → ℕ → List ℕ → Control X
  complete c op payload = record { settings = c.settings; notes = c.notes; opcode = op; wanted = 0; box = added c.box payload }

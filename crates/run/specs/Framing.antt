-- Words: headers and payloads, over any way of keeping uploads. Section 2 of docs/RULES.md; `pump` of the original. Definitions only.
use Rattle.std.specs.Prelude.{ℕ, ◌-◌, ◌/◌, ◌%◌, cond, List, [], ◌∷◌, eqb, ltb}
use Rattle.verdict.specs.Verdict.{Verdict, refused, noted_of}
use Rattle.verdict.specs.declared.Reason.TheVariants.{ZeroOpcode, CountTooLarge}
use Rattle.state.specs.State.{most_payload}
use Rattle.execute.specs.Control.{Keep, Control, Step, Seen, stepped, execute}

module _ {X : Type 0} (K : Keep X) where
  abbrev pub still : Control X → Step X
  still c = record { control = c; paints = [] }

  -- only the header is dropped, so the next word is a header
  abbrev pub dropped : Control X → ℕ → Verdict → Step X
  dropped c op v = still (record { settings = c.settings; notes = noted_of c.notes op v; opcode = c.opcode; wanted = c.wanted; box = c.box })

  abbrev pub begun : Control X → ℕ → ℕ → Control X
  begun c op n = record { settings = c.settings; notes = c.notes; opcode = op; wanted = n; box = c.box }

  -- rules 2.2, 2.3 and 2.4
  unfoldable pub header : Control X → ℕ → ℕ → Step X
  header c op n =
      cond (eqb op 0) (dropped c op (refused ZeroOpcode 0))
      (cond (ltb most_payload n) (dropped c op (refused CountTooLarge 0))
      (cond (eqb n 0) (execute K (begun c op 0)) (still (begun c op n))))

  -- rule 2.5: a payload word, and whether it is the last
  abbrev pub taken : Control X → ℕ → Control X
  taken c w = record { settings = c.settings; notes = c.notes; opcode = c.opcode; wanted = c.wanted - 1; box = K.add w c.box }

  unfoldable pub gather : Control X → ℕ → Step X
  gather c w = cond (eqb c.wanted 1) (execute K (taken c w)) (still (taken c w))

  -- rule 2.1
  unfoldable pub word : Control X → ℕ → Step X
  word c w = cond (eqb c.wanted 0) (header c (w / 16777216) (w % 16777216)) (gather c w)

  -- rule 2.6: words on a machine, one after the other
  abbrev pub word_on : Seen X → ℕ → Seen X
  word_on m w = stepped (word m.control w) m.picture

  unfoldable pub run : Seen X → List ℕ → Seen X
  run m [] = m
  run m (w ∷ ws) = run (word_on m w) ws

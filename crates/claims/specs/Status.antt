-- What a status keeps (rule 1.14), and what a refused command leaves (rule 3.3). Definitions only.
use Rattle.std.specs.Prelude.{ℕ, ◌/◌, ◌%◌, ◌^◌, ◌≡◌}
use Rattle.verdict.specs.Verdict.{Verdict}
use Rattle.std.specs.Int.Bits.{bit_or}
use Rattle.verdict.specs.Verdict.{number_of, bit_for}
use Rattle.verdict.specs.declared.Reason.{Reason}
use Rattle.execute.specs.Commands.{Told, told}
use Rattle.execute.specs.Control.{Keep, Control, verdict_of, execute}

-- rule 1.14: no bit is cleared, and all but three stay as given. Bit k of n is n / 2 ^ k % 2
pub record Stays (before after : ℕ) : Type 0 where
  pub kept : (k : ℕ) → before / 2 ^ k % 2 ≡ 1 → after / 2 ^ k % 2 ≡ 1
  pub others : (k : ℕ) → (k ≡ 2 → ⊥) → (k ≡ 3 → ⊥) → (k ≡ 6 → ⊥) → after / 2 ^ k % 2 ≡ before / 2 ^ k % 2

module _ {X : Type 0} (K : Keep X) where
  -- what the command whose payload is complete says
  abbrev pub told_in : Control X → Told
  told_in c = told (K.look c.box) c.settings c.opcode (K.payload c.box)

  -- its verdict, with the test for room
  abbrev pub verdict_in : Control X → Verdict
  verdict_in c = verdict_of K c.box (told_in c) (told_in c).load

  -- what a command that is refused for the reason r leaves: settings and uploads as they were, no command begun, and the bit of the reason
  pub record Left (c : Control X) (r : Reason) : Type 0 where
    pub settings : (execute K c).control.settings ≡ c.settings
    pub uploads : (execute K c).control.box ≡ K.clear c.box
    pub status : (execute K c).control.notes.status ≡ bit_or c.notes.status (bit_for (number_of r))
    pub opcode : (execute K c).control.opcode ≡ 0
    pub wanted : (execute K c).control.wanted ≡ 0

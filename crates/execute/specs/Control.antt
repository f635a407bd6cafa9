-- Control: what the words so far have left, except the picture; and what a command makes of it, with any way of keeping uploads. `Kept.antt` has one way, slots over lent words. That of the plain machine, a whole history, is another. The original, `execute`. Definitions only.
use Rattle.std.specs.Prelude.{ℕ, cond, List, Result, Ok, Err, ⊤}
use Rattle.std.proofs.Math.Option.{Option, none, some}
use Rattle.verdict.specs.Verdict.{Verdict, because, done, noted_of}
use Rattle.verdict.specs.declared.Notes.{Notes}
use Rattle.verdict.specs.declared.Reason.TheVariants as reason
use Rattle.verdict.specs.declared.Refused.{Refused}
use Rattle.settings.specs.declared.Settings.{Settings}
use Rattle.store.specs.declared.NoRoom.{NoRoom}
use Rattle.store.specs.declared.NoRoom.TheVariants.{NoSlot, NoWords}
use Rattle.store.specs.Slots.{is_fits}
use Rattle.execute.specs.Paints.{Paint, Picture, paints_on}
use Rattle.execute.specs.Commands as commands
use Rattle.execute.specs.Commands.{Look, Load, Told}

-- a way of keeping uploads, and the payload of the command begun. `room` is asked for uploads that passed their checks, and `put` is used for those that have room
pub record Keep (X : Type 0) : Type 0 where
  pub look : X → Look
  pub room : X → Load → Result ⊤ NoRoom
  pub put : X → Load → X
  pub payload : X → List ℕ
  pub add : ℕ → X → X
  pub clear : X → X

-- what the words so far have left, except the picture
pub record Control (X : Type 0) : Type 0 where
  pub settings : Settings
  pub notes : Notes
  pub opcode : ℕ
  pub wanted : ℕ
  pub box : X

-- a control, and what is to be painted
pub record Step (X : Type 0) : Type 0 where
  pub control : Control X
  pub paints : List Paint

-- a machine: control, and the picture, which only paints change
pub record Seen (X : Type 0) : Type 0 where
  pub control : Control X
  pub picture : Picture

abbrev pub stepped : {X : Type 0} → Step X → Picture → Seen X
stepped s p = record { control = s.control; picture = paints_on s.paints p }

-- rule 3.16: reasons 9 and 10
abbrev pub no_room : NoRoom → Refused
no_room NoSlot = because reason.NoSlot 0
no_room NoWords = because reason.NoWords 0

abbrev pub room_verdict : Result ⊤ NoRoom → Verdict
room_verdict (Ok u) = done
room_verdict (Err why) = Err (no_room why)

module _ {X : Type 0} (K : Keep X) where
  -- the verdict of a command, and the uploads after it: one that passed its checks is kept if it has room
  abbrev pub verdict_of : X → Told → Option Load → Verdict
  verdict_of x t none = t.verdict
  verdict_of x t (some l) = room_verdict (K.room x l)

  abbrev pub kept_of : X → Option Load → X
  kept_of x none = x
  kept_of x (some l) = cond (is_fits (K.room x l)) (K.put x l) x

  -- what was refused is noted
  abbrev pub ended : Control X → Told → Control X
  ended c t = record {
    settings = t.settings;
    notes = noted_of c.notes c.opcode (verdict_of c.box t t.load);
    opcode = 0;
    wanted = 0;
    box = K.clear (kept_of c.box t.load);
  }

  -- rule 2.5: the command whose payload is complete; none is begun then
  unfoldable pub execute : Control X → Step X
  execute c =
      let t : Told = commands.told (K.look c.box) c.settings c.opcode (K.payload c.box) in
      record { control = ended c t; paints = t.paints }

  abbrev pub executed : Seen X → Seen X
  executed m = stepped (execute m.control) m.picture

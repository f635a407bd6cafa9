-- Why a word or a command was refused, and what that does to the status. The first refusal is for a later call: none gives it yet. Assumes nothing.
use Rattle.std.specs.Prelude.{ℕ, Bool, cond, ◌&&◌, eqb, leb, Result, Ok, Err, ⊤}
use Rattle.std.specs.Int.Bits.{bit_or}
use Rattle.verdict.specs.declared.Reason.{Reason}
use Rattle.verdict.specs.declared.Reason.TheVariants.{ZeroOpcode, CountTooLarge, UnknownOpcode, WrongLength, OutOfRange, NotFinite, NotHeld, NotInvertible, NoSlot, NoWords}
use Rattle.verdict.specs.declared.Refusal.{Refusal}
use Rattle.verdict.specs.declared.Notes.{Notes}
use Rattle.verdict.specs.declared.Refused.{Refused}

-- what checks come to, as the type of that name: nothing was found wrong, or a reason and the index of a payload word
abbrev pub Verdict : Type 0
Verdict = Result ⊤ Refused

abbrev pub because : Reason → ℕ → Refused
because r i = record { reason = r; index = i }

abbrev pub refused : {A : Type 0} → Reason → ℕ → Result A Refused
refused r i = Err (because r i)

abbrev pub done : Verdict
done = Ok _

-- rule 3.5
abbrev pub number_of : Reason → ℕ
number_of ZeroOpcode = 1
number_of CountTooLarge = 2
number_of UnknownOpcode = 3
number_of WrongLength = 4
number_of OutOfRange = 5
number_of NotFinite = 6
number_of NotHeld = 7
number_of NotInvertible = 8
number_of NoSlot = 9
number_of NoWords = 10

-- rule 1.14: the value of the bit that a reason of this number sets
abbrev pub bit_for : ℕ → ℕ
bit_for n = cond (eqb n 1) 4 (cond (leb n 8) 8 64)

abbrev pub bits_of : Verdict → ℕ
bits_of (Ok u) = 0
bits_of (Err e) = bit_for (number_of e.reason)

-- a refusal as a host is to be told of it; and none
abbrev pub refusal : ℕ → ℕ → ℕ → Refusal
refusal reason opcode index = record { reason = reason; opcode = opcode; index = index }

abbrev pub no_refusal : Refusal
no_refusal = refusal 0 0 0

-- the first refusal since one was last taken stays; until there is one, a command or a header of this opcode that came to v may give it
abbrev pub first_after : Refusal → ℕ → Verdict → Refusal
first_after first opcode (Ok u) = first
first_after first opcode (Err e) = cond (eqb first.reason 0) (refusal (number_of e.reason) opcode e.index) first

-- what refusals leave behind: nothing, if there were none; and, by rule 1.14, what is left after a command or a header of this opcode came to v
abbrev pub no_notes : Notes
no_notes = record { status = 0 }

abbrev pub noted_of : Notes → ℕ → Verdict → Notes
noted_of n opcode v = record { status = bit_or n.status (bits_of v) }

-- no refusal has neither opcode nor index; any other has a reason up to 10 and an index up to 28
unfoldable pub refusal_ok : Refusal → Bool
refusal_ok first = cond (eqb first.reason 0) (eqb first.opcode 0 && eqb first.index 0) (leb first.reason 10 && leb first.index 28)

-- rule 3.4: one check, and if it finds nothing, the next
abbrev pub and_then : Verdict → Verdict → Verdict
and_then (Ok u) v = v
and_then (Err e) v = Err e

-- what is answered, if checks that came to this find nothing
abbrev pub passed : {A : Type 0} → Verdict → A → Result A Refused
passed (Ok u) a = Ok a
passed (Err e) a = Err e

-- rule 3.3: what a command leaves, the first if it is done, the second if it is refused
abbrev pub when_done : {A : Type 0} → Verdict → A → A → A
when_done (Ok u) a b = a
when_done (Err e) a b = b

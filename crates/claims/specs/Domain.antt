-- Rule 10.2, the domain of demand 2: which words after a reset are in it. Definitions only.
use Rattle.std.specs.Prelude.{ℕ, ◌≤◌, ◌≡◌, List, [], ◌∷◌, ◌++◌, map, nat_abs, length, drop, get_or, Ok}
use Rattle.verdict.specs.Verdict.{done}
use Rattle.std.proofs.Math.Option.{some}
use Rattle.store.specs.declared.Kind.{Kind}
use Rattle.flat.specs.Words.{signed_at}
use Rattle.execute.specs.Commands.{Load, told}
use Rattle.execute.specs.Control.{Control, Seen}
use Rattle.run.specs.Framing.{taken, word_on}
use Rattle.vpu.specs.Calls.{Small}
use Rattle.claims.specs.Plain.{Past, as_past, plain_start}
use Rattle.claims.specs.Runs.{Call, feeds, own}
use Rattle.claims.specs.Original.{Vpu, copies, push}

-- these words of a payload, read with a sign, are from -8192 to 8192
abbrev pub Near : List ℕ → List ℕ → Type 0
Near p [] = Unit {0}
Near p (k ∷ ks) = (nat_abs (signed_at p k) ≤ 8192) × Near p ks

-- a command whose payload is complete is in the domain, with what was kept before it
pub record Within (size : Kind → ℕ) (c : Control Past) : Type 0 where
  -- flat coordinates: x and y of each corner, in command 12 with its eleven words
  pub near : c.opcode ≡ 0x12 → length c.box.payload ≡ 11 → Near c.box.payload (0 ∷ 1 ∷ 3 ∷ 4 ∷ 6 ∷ 7 ∷ [])
  -- an upload that passes its checks has room, by rule 8.5 over the history
  pub fits : (l : Load) → (told ((as_past size).look c.box) c.settings c.opcode c.box.payload).load ≡ some l → (as_past size).room c.box l ≡ Ok _

-- if a word completes a command, that command is in the domain. (A header with count 0 runs a command without words, which is always refused.)
abbrev pub Fine : (Kind → ℕ) → Seen Past → ℕ → Type 0
Fine size m w = m.control.wanted ≡ 1 → Within size (taken (as_past size) m.control w)

unfoldable pub AllFine : (Kind → ℕ) → Seen Past → List ℕ → Type 0
AllFine size m [] = Unit {0}
AllFine size m (w ∷ ws) = Fine size m w × AllFine size (word_on (as_past size) m w) ws

-- the domain: 32-bit words, from a reset on, with stores of these lengths
abbrev pub InDomain : (Kind → ℕ) → List ℕ → Type 0
InDomain size ws = Small ws × AllFine size plain_start ws

-- no sprite is accepted: a command 10 that w, its last word, completes on the machine v is refused; and so for the words after it
abbrev pub RefusedTen : Vpu → ℕ → Type 0
RefusedTen v w =
    let command = v.command ++ (w ∷ []) in
    (left : ℕ) → v.expected ≡ some left → left ≤ 1 → get_or command 0 0 ≡ 0x10 → (told v.uploads v.settings 0x10 (drop 1 command)).verdict ≡ done → ⊥

unfoldable pub NoSprites : Vpu → List ℕ → Type 0
NoSprites v [] = Unit {0}
NoSprites v (w ∷ ws) = RefusedTen v w × NoSprites (push copies v w) ws

-- accepted calls: each feeds the run's own state and buffers
abbrev pub calls : List (List ℕ) → List Call
calls wss = map (feeds own) wss

-- a call for each word
abbrev pub singles : List ℕ → List (List ℕ)
singles [] = []
singles (w ∷ ws) = (w ∷ []) ∷ singles ws

-- ---- a stream that is in the domain for some x and some stores: `proofs/Domain.antt`
-- texture 7, of one texel
abbrev pub upload : List ℕ
upload = 0x1700_0004 ∷ 7 ∷ 1 ∷ 1 ∷ 0xf0a5_1234 ∷ []

-- all cleared
abbrev pub clear : List ℕ
clear = 0x0400_0003 ∷ 3 ∷ 0x8080_80ff ∷ 0 ∷ []

-- a flat triangle on (0,0), (x,0), (0,4)
abbrev pub triangle : ℕ → List ℕ
triangle x = 0x1200_000b ∷ 0 ∷ 0 ∷ 10 ∷ x ∷ 0 ∷ 10 ∷ 0 ∷ 4 ∷ 10 ∷ 0xff_ffff ∷ 255 ∷ []

abbrev pub stream : ℕ → List ℕ
stream x = upload ++ (clear ++ triangle x)

-- ---- the upload, and a sprite of w texels beside each other from it: `proofs/Sprites.antt`
abbrev pub copied : ℕ → List ℕ
copied w = upload ++ (0x1000_0007 ∷ 7 ∷ 0 ∷ 0 ∷ w ∷ 1 ∷ 5 ∷ 5 ∷ [])

-- The four idle versions, each as a way that any function may behave: docs/CLAIMS.md. `proofs/Idle.antt` shows that none meets its contract. Definitions only.
use Rattle.std.specs.Prelude.{ℕ, ◌*◌, ◌/◌, ◌%◌, ◌≡◌, cond, List, [], ◌∷◌, ◌++◌, ℤ, Float, length, Ok}
use Rattle.std.proofs.Math.Option.{none, some}
use Rattle.ieee.specs.Number.{unit_of}
use Rattle.verdict.specs.Verdict.{no_notes}
use Rattle.screen.specs.Plane.{Answered}
use Rattle.raster.specs.Ink.{byte_of}
use Rattle.settings.specs.Settings as settings
use Rattle.store.specs.declared.Kind.{Kind}
use Rattle.store.specs.Uploads.{is_some}
use Rattle.state.specs.State.{well_formed}
use Rattle.state.specs.declared.State.{State}
use Rattle.execute.specs.Commands.{Load, texture_in}
use Rattle.execute.specs.Control.{Keep, Control}
use Rattle.execute.specs.Kept.{Machine, machine, state_of, as_box}
use Rattle.run.specs.Framing.{run}
use Rattle.vpu.specs.Calls.{Small, Outcome, outcome, lengths_ok, feed, reset}
use Rattle.claims.specs.Plain.{plain_start}
use Rattle.claims.specs.Alike.{Passing}

-- a function that is given what `feed` is given, and one that meets `feed`'s contract
abbrev pub Feeder : Type 0
Feeder = State → List ℕ → List ℕ → List ℤ → List Float → List ℕ → List ℕ → List ℕ → Outcome

abbrev pub Meets : Feeder → Type 0
Meets f = (s : State) (ws : List ℕ) (P : List ℕ) (D : List ℤ) (F : List Float) (C T M : List ℕ) → f s ws P D F C T M ≡ feed s ws P D F C T M

-- always answering 1 or 2: never 0
abbrev pub NeverDone : Feeder → Type 0
NeverDone f = (s : State) (ws : List ℕ) (P : List ℕ) (D : List ℤ) (F : List Float) (C T M : List ℕ) → (f s ws P D F C T M).answer ≡ 0 → ⊥

-- the same for the other two calls
abbrev pub NeverReset : (List ℕ → List ℤ → List Float → List ℕ → List ℕ → List ℕ → Outcome) → Type 0
NeverReset f = (P : List ℕ) (D : List ℤ) (F : List Float) (C T M : List ℕ) → (f P D F C T M).answer ≡ 0 → ⊥

abbrev pub NeverRead : (List ℕ → ℕ → ℕ → Answered) → Type 0
NeverRead f = (P : List ℕ) (x y : ℕ) → (f P x y).number ≡ 0 → ⊥

-- one constant plane: it is there after every call that is answered 0
abbrev pub OnePlane : List ℕ → Feeder → Type 0
OnePlane Q f =
    (s : State) (ws : List ℕ) (P : List ℕ) (D : List ℤ) (F : List Float) (C T M : List ℕ) → (f s ws P D F C T M).answer ≡ 0 → (f s ws P D F C T M).machine.picture.plane ≡ Q

-- changing nothing, in every call that is answered 0
abbrev pub NothingChanged : Feeder → Type 0
NothingChanged f =
    (s : State) (ws : List ℕ) (P : List ℕ) (D : List ℤ) (F : List Float) (C T M : List ℕ) → (f s ws P D F C T M).answer ≡ 0 → (f s ws P D F C T M).machine ≡ machine s P D F C T M

-- ---- storing the first upload and pretending for later ones. A reset is answered 0, some words are fed, and then come the first two uploads, of one kind and number
-- no command is begun, and nothing is held yet
pub record Blank {X : Type 0} (K : Keep X) (c : Control X) : Type 0 where
  pub header_next : c.wanted ≡ 0
  pub none-held : (k : Kind) (n : ℕ) → K.look c.box k n ≡ none

-- the two uploads passed their checks, and there is room for each as it comes
pub record Twice {X : Type 0} (K : Keep X) (x : X) (a b : Load) : Type 0 where
  pub kind : a.kind ≡ b.kind
  pub number : a.whole.number ≡ b.whole.number
  pub passing_first : Passing a
  pub passing_second : Passing b
  pub room-first : K.room x a ≡ Ok _
  pub room-second : K.room (K.put x a) b ≡ Ok _

-- the control after a reset and these words, with uploads kept from x on
abbrev pub words_on : {X : Type 0} → Keep X → X → List ℕ → Control X
words_on K x ws = (run K (record { control = record { settings = settings.fresh; notes = no_notes; opcode = 0; wanted = 0; box = x }; picture = plain_start.picture }) ws).control

-- a way of keeping that does so: the first of the two is found
abbrev pub FirstKept : {X : Type 0} → Keep X → X → Type 0
FirstKept K x =
    (ws : List ℕ) → Small ws → Blank K (words_on K x ws) → (a b : Load) → Twice K (words_on K x ws).box a b
    → K.look (K.put (K.put (words_on K x ws).box a) b) a.kind a.whole.number ≡ some a.whole

-- a feeder, given a machine's state and memory
abbrev pub fed_by : Feeder → Machine → List ℕ → Machine
fed_by f m ws =
    (f (state_of m) ws m.picture.plane m.picture.depth m.picture.depth_f m.control.box.area m.control.box.textures.words m.control.box.models.words).machine

-- 17 with a 1 × 1 texture under n, of the word w, and that there is room for it
abbrev pub upload : ℕ → ℕ → List ℕ
upload n w = 0x1700_0004 ∷ n ∷ 1 ∷ 1 ∷ w ∷ []

abbrev pub HasRoom : Machine → ℕ → ℕ → Type 0
HasRoom m n w = as_box.room m.control.box (texture_in (n ∷ 1 ∷ 1 ∷ w ∷ [])) ≡ Ok _

-- two of them, after the words ws, with room for each as it comes
pub record TwiceFed (f : Feeder) (m : Machine) (ws : List ℕ) (n a b : ℕ) : Type 0 where
  pub words : Small (n ∷ a ∷ b ∷ ws)
  pub blank : Blank as_box (fed_by f m ws).control
  pub room-first : HasRoom (fed_by f m ws) n a
  pub room-second : HasRoom (fed_by f m (ws ++ upload n a)) n b

-- a feeder that does so: whatever words ds follow the two, the plane is what it is after the first alone
abbrev pub FirstShown : Feeder → Type 0
FirstShown f =
    (P : List ℕ) (D : List ℤ) (F : List Float) (C T M : List ℕ) → (reset P D F C T M).answer ≡ 0 → (ws ds : List ℕ) (n a b : ℕ)
    → TwiceFed f (reset P D F C T M).machine ws n a b → Small ds
    → (fed_by f (reset P D F C T M).machine (ws ++ (upload n a ++ (upload n b ++ ds)))).picture.plane ≡ (fed_by f (reset P D F C T M).machine (ws ++ (upload n a ++ ds))).picture.plane

-- ---- a way of keeping and a feeder that do so, to show that there are any: `proofs/Pretended.antt`
-- K, but an upload under a number that is held is not stored
abbrev pub pretends : {X : Type 0} → Keep X → Keep X
pretends K = record {
  look = K.look;
  room = K.room;
  put = λ x l. cond (is_some (K.look x l.kind l.whole.number)) x (K.put x l);
  payload = K.payload;
  add = K.add;
  clear = K.clear;
}

-- `feed` with the machine's slots, pretending
abbrev pub pretender : Feeder
pretender s ws P D F C T M =
    let m : Machine = machine s P D F C T M in
    cond (lengths_ok (length P) (length D) (length F) (length C) (length T) (length M))
    (cond (well_formed s (length T) (length M)) (outcome 0 (run (pretends as_box) m ws)) (outcome 2 m))
    (outcome 1 m)

-- ---- the draw that tells the two apart, and what it leaves
-- -1.0 and 1.0
abbrev pub less : ℕ
less = 0xbf80_0000

abbrev pub more : ℕ
more = 0x3f80_0000

-- the words of an 18 with the texture 1, mode 0: x, y, z, u, v and colour of (-1, -1, 0), (1, -1, 0), (-1, 1, 0)
abbrev pub triangle : List ℕ
triangle = 1 ∷ 0 ∷ less ∷ less ∷ 0 ∷ 0 ∷ 0 ∷ 0 ∷ more ∷ less ∷ 0 ∷ 0 ∷ 0 ∷ 0 ∷ less ∷ more ∷ 0 ∷ 0 ∷ 0 ∷ 0 ∷ []

abbrev pub draw : List ℕ
draw = 0x1800_0014 ∷ triangle

-- the alpha byte at (0, 0) after that draw, with a 1 × 1 texture of the word w: the texel's alpha, by way of a float
abbrev pub alpha_of : ℕ → ℕ
alpha_of w = byte_of (unit_of (w / 65536 % 16 * 17))

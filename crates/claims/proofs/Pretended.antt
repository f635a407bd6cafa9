-- The fourth idle version behaves as `FirstKept` and `FirstShown` say, so that what is refuted of them is refuted of it: the whole history, and the machine's slots, each with uploads under a held number pretended. Assumes nothing.
use Prim.Native.Nat.{ℕ}
use Rattle.verdict.specs.Verdict.{done}
use Rattle.std.specs.Prelude.{Ok}
use mathlib.Core.Path.{◌≡◌, refl, sym, ap, ◌∙◌}
use mathlib.Core.Bool.{Bool, true, false, cond}
use mathlib.Core.Option.{none, some}
use mathlib.Core.List.{List, [], ◌∷◌, ◌++◌}
use native.Mathlib.Omega.{arith}
use lib.Bits.{or_zero_r}
use lib.IntN.{ℤ}
use lib.Ieee.{Float}
use lib.ListN.{length}
use borrow.Author.Tests.{eq-eqb}
use Rattle.verdict.specs.declared.Notes.{Notes}
use Rattle.settings.specs.declared.Settings.{Settings}
use Rattle.store.specs.declared.Kind.{Kind}
use Rattle.store.specs.declared.Kind.TheVariants.{Texture, Model}
use Rattle.store.specs.Uploads.{Whole, is_some, find}
use Rattle.state.specs.declared.State.{State}
use Rattle.state.specs.State.{well_formed}
use Rattle.execute.specs.Paints.{Picture, paints_on}
use Rattle.command.specs.Command.{command_of}
use Rattle.execute.specs.Commands.{Look, texture_in, told, texture_verdict}
use Rattle.execute.specs.Control.{Keep, Seen, execute}
use Rattle.execute.specs.Kept.{Machine, machine, state_of, as_box}
use Rattle.run.specs.Framing.{word, header, gather, run}
use Rattle.vpu.specs.Calls.{Outcome, outcome, reset}
use Rattle.run.proofs.Laws.{run-append}
use Rattle.claims.specs.Calls.{Right}
use Rattle.claims.specs.Alike.{Alike}
use Rattle.claims.specs.Plain.{Past, past, history, accepted, as_past, plain_start}
use Rattle.claims.specs.Runs.{feed_on, sizes, after_all, AllAllowed}
use Rattle.claims.specs.Idle.{FirstKept, fed_by, upload, HasRoom, TwiceFed, FirstShown, pretends, pretender}
use Rattle.claims.proofs.Alike.{Shown, run_same}
use Rattle.claims.proofs.Slots.{Kept, alike}
use Rattle.claims.proofs.Calls.{feed_answers, right_measured}
use Rattle.claims.proofs.Demand3.{fed_done, words-shown}

-- ---- a way of keeping
-- what was accepted last is found
newest : (h : Past) (k : Kind) (u : Whole) → find u.number (history (accepted h k u) k) ≡ some u
newest h Texture u = rw (eq-eqb u.number u.number refl)
newest h Model u = rw (eq-eqb u.number u.number refl)

pub pretends-kept : (size : Kind → ℕ) (x : Past) → FirstKept (pretends (as_past size)) x
pretends-kept size x ws w blank a b two =
    let none-there = blank.none-held a.kind a.whole.number in
    rw (none-there, ← two.kind, ← two.number, newest _ a.kind a.whole) (newest _ a.kind a.whole)

-- ---- two that answer alike still do so, pretending
pretend_alike : {X Y : Type 0} {K : Keep X} {P : Keep Y} {Rel : X → Y → Type 0} → Alike K P Rel → Alike (pretends K) (pretends P) Rel
pretend_alike {X} {Y} {K} {P} {Rel} A = record {
  look_same = A.look_same;
  room_same = A.room_same;
  put-kept = λ x y l r p f. rw (A.look_same x y r) (either (is_some (P.look y l.kind l.whole.number)) r (A.put-kept x y l r p f));
  payload_same = A.payload_same;
  add_kept = A.add_kept;
  add-length = A.add-length;
  clear_kept = A.clear_kept;
  clear-length = A.clear-length;
}
  where
    either : {x x' : X} {y y' : Y} (b : Bool) → Rel x y → Rel x' y' → Rel (cond b x x') (cond b y y')
    either true p q = p
    either false p q = q

-- ---- the plain machine, pretending: with no command begun, the second of two 1 × 1 textures under one number leaves what the first left
module _ (size : Kind → ℕ) where
  abbrev P : Keep Past
  P = pretends (as_past size)

  abbrev waiting : Settings → Notes → ℕ → List Whole → List Whole → Picture → Seen Past
  waiting s n o t m p = record { control = record { settings = s; notes = n; opcode = o; wanted = 0; box = past t m [] }; picture = p }

  is-waiting : (n : Seen Past) → n.control.wanted ≡ 0 → n.control.box.payload ≡ []
      → n ≡ waiting n.control.settings n.control.notes n.control.opcode n.control.box.textures n.control.box.models n.picture
  is-waiting n w e =
      λ i. record {
        control = record { settings = n.control.settings; notes = n.control.notes; opcode = n.control.opcode; wanted = w i; box = past n.control.box.textures n.control.box.models (e i) };
        picture = n.picture;
      }

  module _ (s : Settings) (notes : Notes) (o : ℕ) (t m : List Whole) (p : Picture) (n a : ℕ) where
    once_left : find n t ≡ none → (as_past size).room (past t m []) (texture_in (n ∷ 1 ∷ 1 ∷ a ∷ [])) ≡ Ok _
        → run P (waiting s notes o t m p) (upload n a) ≡ waiting s notes 0 ((texture_in (n ∷ 1 ∷ 1 ∷ a ∷ [])).whole ∷ t) m p
    unfolding run word header gather execute told command_of texture_verdict paints_on
    once_left free one = rw (one, free, or_zero_r notes.status)

    twice_left : (b : ℕ) → (as_past size).room (past ((texture_in (n ∷ 1 ∷ 1 ∷ a ∷ [])).whole ∷ t) m []) (texture_in (n ∷ 1 ∷ 1 ∷ b ∷ [])) ≡ Ok _
        → run P (waiting s notes 0 ((texture_in (n ∷ 1 ∷ 1 ∷ a ∷ [])).whole ∷ t) m p) (upload n b) ≡ waiting s notes 0 ((texture_in (n ∷ 1 ∷ 1 ∷ a ∷ [])).whole ∷ t) m p
    unfolding run word header gather execute told command_of texture_verdict paints_on
    twice_left b two = rw (two, eq-eqb n n refl, or_zero_r notes.status)

-- ---- the feeder
pretender-done : (s : State) (ws : List ℕ) (P : List ℕ) (D : List ℤ) (F : List Float) (C T M : List ℕ) → Right P D F C T M → well_formed s (length T) (length M) ≡ true
    → pretender s ws P D F C T M ≡ outcome 0 (run (pretends as_box) (machine s P D F C T M) ws)
pretender-done s ws P D F C T M e f = rw (right_measured P D F C T M e, f)

pretender_runs : (x : Machine) (ws : List ℕ) → (feed_on x []).answer ≡ 0 → fed_by pretender x ws ≡ run (pretends as_box) x ws
pretender_runs x ws e =
    let ok = (feed_answers _ _ _ _ _ _ (state_of x) []).zero e in
    ap (λ (o : Outcome). o.machine)
    (pretender-done (state_of x) ws x.picture.plane x.picture.depth x.picture.depth_f x.control.box.area x.control.box.textures.words x.control.box.models.words ok.0 ok.1)

module _ (P : List ℕ) (D : List ℤ) (F : List Float) (C T M : List ℕ) (done : (reset P D F C T M).answer ≡ 0) where
  abbrev m : Machine
  m = (reset P D F C T M).machine

  abbrev size : Kind → ℕ
  size = sizes T M

  abbrev Q : Keep Past
  Q = pretends (as_past size)

  -- its words run, beside the plain machine's
  runs : (ws : List ℕ) → fed_by pretender m ws ≡ run (pretends as_box) m ws
  unfolding after_all AllAllowed
  runs ws = pretender_runs m ws (fed_done P D F C T M done [] tt [])

  starts : Shown Q (Kept size) m plain_start
  unfolding run
  starts =
      let s = words-shown P D F C T M done size refl refl [] in
      record {
        control = record {
          settings = s.control.settings;
          notes = s.control.notes;
          opcode = s.control.opcode;
          wanted = s.control.wanted;
          box = s.control.box;
          bound = s.control.bound;
          idle = s.control.idle;
        };
        picture = s.picture;
      }

  shown : (ws : List ℕ) → Shown Q (Kept size) (fed_by pretender m ws) (run Q plain_start ws)
  shown ws = rw (runs ws) (run_same (pretend_alike (alike size)) ws m plain_start starts)

  module _ (ws : List ℕ) (n a b : ℕ) (ready : TwiceFed pretender m ws n a b) where
    abbrev N : Seen Past
    N = run Q plain_start ws

    abbrev after : Seen Past
    after = waiting size N.control.settings N.control.notes 0 ((texture_in (n ∷ 1 ∷ 1 ∷ a ∷ [])).whole ∷ N.control.box.textures) N.control.box.models N.picture

    idle : N.control.wanted ≡ 0
    idle = sym (shown ws).control.wanted ∙ ready.blank.header_next

    no_payload : (p : List ℕ) → length p ≡ 0 → p ≡ []
    no_payload [] e = refl
    no_payload (w ∷ p) e = absurd (omega arith)

    is : N ≡ waiting size N.control.settings N.control.notes N.control.opcode N.control.box.textures N.control.box.models N.picture
    is = is-waiting size N idle (no_payload N.control.box.payload ((shown ws).control.idle idle))

    free : find n N.control.box.textures ≡ none
    free = sym (ap (λ (l : Look). l Texture n) ((alike size).look_same _ _ (shown ws).control.box)) ∙ ready.blank.none-held Texture n

    room : (vs : List ℕ) (w : ℕ) → HasRoom (fed_by pretender m vs) n w → (as_past size).room (run Q plain_start vs).control.box (texture_in (n ∷ 1 ∷ 1 ∷ w ∷ [])) ≡ Ok _
    room vs w h = sym ((alike size).room_same _ _ (texture_in (n ∷ 1 ∷ 1 ∷ w ∷ [])) (shown vs).control.box) ∙ h

    first : run Q N (upload n a) ≡ after
    first =
        ap (λ (x : Seen Past). run Q x (upload n a)) is
        ∙ once_left size N.control.settings N.control.notes N.control.opcode N.control.box.textures N.control.box.models N.picture n a free (room ws a ready.room-first)

    second : run Q after (upload n b) ≡ after
    second =
        let here : run Q plain_start (ws ++ upload n a) ≡ after = run-append Q plain_start ws (upload n a) ∙ first in
        twice_left size N.control.settings N.control.notes N.control.opcode N.control.box.textures N.control.box.models N.picture n a b
        (ap (λ (x : Seen Past). (as_past size).room x.control.box (texture_in (n ∷ 1 ∷ 1 ∷ b ∷ []))) (sym here) ∙ room (ws ++ upload n a) b ready.room-second)

    one_more : (ds : List ℕ) → run Q plain_start (ws ++ (upload n a ++ ds)) ≡ run Q after ds
    one_more ds = run-append Q plain_start ws (upload n a ++ ds) ∙ run-append Q N (upload n a) ds ∙ ap (λ (x : Seen Past). run Q x ds) first

    two-more : (ds : List ℕ) → run Q plain_start (ws ++ (upload n a ++ (upload n b ++ ds))) ≡ run Q after ds
    two-more ds = one_more (upload n b ++ ds) ∙ run-append Q after (upload n b) ds ∙ ap (λ (x : Seen Past). run Q x ds) second

    same_plane : (ds : List ℕ) → (fed_by pretender m (ws ++ (upload n a ++ (upload n b ++ ds)))).picture.plane ≡ (fed_by pretender m (ws ++ (upload n a ++ ds))).picture.plane
    same_plane ds =
        ap (λ (p : Picture). p.plane)
        ((shown (ws ++ (upload n a ++ (upload n b ++ ds)))).picture ∙ ap (λ (x : Seen Past). x.picture) (two-more ds ∙ sym (one_more ds)) ∙ sym (shown (ws ++ (upload n a ++ ds))).picture)

pub pretender-shown : FirstShown pretender
pretender-shown P D F C T M done ws ds n a b ready small = same_plane P D F C T M done ws n a b ready ds

-- Demand 3: from a reset answered 0 on, whatever the calls, the plane, both depth buffers and the status are the plain machine's, which keeps the whole history of uploads. Assumes nothing.
use Prim.Native.Nat.{ℕ, ◌≤◌}
use mathlib.Core.Path.{◌≡◌, refl, sym, ap, ◌∙◌}
use mathlib.Core.Bool.{Bool, true, false, cond}
use mathlib.Core.List.{List, [], ◌∷◌, ◌++◌}
use native.Mathlib.Omega.{arith}
use lib.IntN.{ℤ}
use lib.Ieee.{Float}
use lib.ListN.{length, replicate, length-replicate}
use borrow.Author.Tests.{le-leb, ne_eqb}
use Rattle.screen.specs.Plane.{plane_bytes}
use Rattle.screen.specs.Draw.{pixels}
use Rattle.verdict.specs.declared.Notes.{Notes}
use Rattle.store.specs.declared.Kind.{Kind}
use Rattle.store.specs.declared.Kind.TheVariants.{Texture, Model}
use Rattle.store.specs.declared.Slot.{Slot}
use Rattle.store.specs.Uploads.{Whole, cards, live, most_words}
use Rattle.store.specs.Slots.{no_slot}
use Rattle.store.proofs.Walk.{length-slots_of}
use Rattle.store.proofs.Kept.{Keeps, keeps_none}
use Rattle.state.specs.State.{fresh, well_formed}
use Rattle.state.proofs.Formed.{fresh_formed}
use Rattle.execute.specs.Control.{Seen}
use Rattle.execute.specs.Kept.{Machine, machine, state_of, as_box}
use Rattle.run.specs.Framing.{run}
use Rattle.vpu.specs.Calls.{Small, Outcome, outcome, lengths_ok, cleared, reset}
use Rattle.run.proofs.Laws.{parts_machine, run-append}
use Rattle.vpu.proofs.Laws.{lengths, reset_wrong, reset-done, feed_wrong, feed_malformed, feed-done}
use Rattle.vpu.proofs.Returned.{returned_formed}
use Rattle.claims.specs.Plain.{Past, as_past, plain_start}
use Rattle.claims.specs.Runs as runs
use Rattle.claims.specs.Runs.{feed_on, reset_on, Own, mixed, Call, after, after_all, Allowed, AllAllowed, sizes, plain_after, plain_all}
use Rattle.claims.proofs.Alike.{Shown, run_same}
use Rattle.claims.proofs.Slots.{Kept, alike}
use Rattle.claims.proofs.Lengths.{run_long}

-- ---- a run against the plain machine
-- the lengths of the two stores are allowed
record Sizes (size : Kind → ℕ) : Type 0 where
  textures : size Texture ≤ most_words
  models : size Model ≤ most_words

record Runs (size : Kind → ℕ) (m : Machine) (n : Seen Past) : Type 0 where
  shown : Shown (as_past size) (Kept size) m n
  plane : length m.picture.plane ≡ plane_bytes
  depth : length m.picture.depth ≡ pixels
  depth_f : length m.picture.depth_f ≡ pixels
  formed : well_formed (state_of m) (size Texture) (size Model) ≡ true

-- what is lent in a call, measured
abbrev measured : Machine → Bool
measured m =
    lengths_ok (length m.picture.plane) (length m.picture.depth) (length m.picture.depth_f) (length m.control.box.area) (length m.control.box.textures.words)
    (length m.control.box.models.words)

abbrev formed_in : Machine → Bool
formed_in m = well_formed (state_of m) (length m.control.box.textures.words) (length m.control.box.models.words)

keeps_slots : {k : Kind} {size : ℕ} {slots : List Slot} {store : List ℕ} {h : List Whole} → Keeps k size slots store h → length slots ≡ 64
keeps_slots {h = h} e = ap length e.rep.formed.slots-are ∙ length-slots_of (cards (live h)) e.rep.formed.few

module _ {size : Kind → ℕ} (z : Sizes size) {m : Machine} {n : Seen Past} (r : Runs size m n) where
  long-textures : length m.control.box.textures.words ≡ size Texture
  long-textures = r.shown.control.box.textures.long

  long-models : length m.control.box.models.words ≡ size Model
  long-models = r.shown.control.box.models.long

  -- the lengths are right and the state is well formed, all along
  runs_measured : measured m ≡ true
  unfolding lengths_ok
  runs_measured =
      rw (r.plane, r.depth, r.depth_f, r.shown.control.box.area, long-textures, long-models, le-leb (size Texture) most_words z.textures, le-leb (size Model) most_words z.models)

  runs_formed : formed_in m ≡ true
  runs_formed = rw (long-textures, long-models) r.formed

  -- so a call of the run is answered 0, and runs the words
  runs_fed : (ws : List ℕ) → feed_on m ws ≡ outcome 0 (run as_box m ws)
  runs_fed ws = feed-done _ _ _ _ _ _ (state_of m) ws runs_measured runs_formed

  runs_reset : reset_on m
      ≡ outcome 0 (cleared m.picture.plane m.picture.depth m.picture.depth_f m.control.box.area m.control.box.textures.words m.control.box.models.words)
  runs_reset = reset-done _ _ _ _ _ _ runs_measured

  -- words keep the two alike
  fed_runs : (ws : List ℕ) → Small ws → Runs size (run as_box m ws) (run (as_past size) n ws)
  fed_runs ws w =
      let long = run_long as_box ws m in
      let back : well_formed (state_of (feed_on m ws).machine) (length m.control.box.textures.words) (length m.control.box.models.words) ≡ true =
      returned_formed (state_of m) ws _ _ _ _ _ _ (keeps_slots r.shown.control.box.textures) (keeps_slots r.shown.control.box.models) w runs_formed in
      record {
        shown = run_same (alike size) ws m n r.shown;
        plane = long.plane ∙ r.plane;
        depth = long.depth ∙ r.depth;
        depth_f = long.depth_f ∙ r.depth_f;
        formed = rw (runs_fed ws, long-textures, long-models) at back;
      }

-- a reset, whatever was there
keeps_zero : (k : Kind) (n size : ℕ) → n ≡ size → Keeps k size (replicate 64 no_slot) (replicate n 0) []
keeps_zero k n size h =
    let e = keeps_none k (replicate n 0) in
    record { rep = e.rep; long = length-replicate n 0 ∙ h }

module _ (size : Kind → ℕ) (P : List ℕ) (D : List ℤ) (F : List Float) (C T M : List ℕ) where
  reset_runs : lengths_ok (length P) (length D) (length F) (length C) (length T) (length M) ≡ true → length T ≡ size Texture → length M ≡ size Model
      → Runs size (cleared P D F C T M) plain_start
  unfolding cleared
  reset_runs e t m =
      let l = lengths (length P) (length D) (length F) (length C) (length T) (length M) e in
      record {
        shown = record {
          control = record {
            settings = refl;
            notes = refl;
            opcode = refl;
            wanted = refl;
            box = record {
              textures = keeps_zero Texture (length T) (size Texture) t;
              models = keeps_zero Model (length M) (size Model) m;
              area = l.of-command;
              gathered = refl;
              payload = refl;
            };
            bound = omega arith;
            idle = λ y. refl;
          };
          picture = rw (l.of-plane, l.of-depth, l.of_floats);
        };
        plane = length-replicate (length P) 0 ∙ l.of-plane;
        depth = length-replicate (length D) _ ∙ l.of-depth;
        depth_f = length-replicate (length F) _ ∙ l.of_floats;
        formed = fresh_formed (size Texture) (size Model);
      }

-- ---- a refused call leaves every lent element as it was, and a feed the state too
pub feed-refused : (m : Machine) (ws : List ℕ) → ((feed_on m ws).answer ≡ 0 → ⊥) → (feed_on m ws).machine ≡ m
feed-refused m ws bad = go (measured m) refl (formed_in m) refl
  where
    go : (a : Bool) → measured m ≡ a → (b : Bool) → formed_in m ≡ b → (feed_on m ws).machine ≡ m
    go false e b f = ap (λ (o : Outcome). o.machine) (feed_wrong _ _ _ _ _ _ (state_of m) ws e)
    go true e false f = ap (λ (o : Outcome). o.machine) (feed_malformed _ _ _ _ _ _ (state_of m) ws e f)
    go true e true f = absurd (bad (ap (λ (o : Outcome). o.answer) (feed-done _ _ _ _ _ _ (state_of m) ws e f)))

pub reset-refused : (m : Machine) → ((reset_on m).answer ≡ 0 → ⊥)
    → (reset_on m).machine
    ≡ machine fresh m.picture.plane m.picture.depth m.picture.depth_f m.control.box.area m.control.box.textures.words m.control.box.models.words
reset-refused m bad = go (measured m) refl
  where
    go : (a : Bool) → measured m ≡ a
        → (reset_on m).machine
        ≡ machine fresh m.picture.plane m.picture.depth m.picture.depth_f m.control.box.area m.control.box.textures.words m.control.box.models.words
    go false e = ap (λ (o : Outcome). o.machine) (reset_wrong _ _ _ _ _ _ e)
    go true e = absurd (bad (ap (λ (o : Outcome). o.answer) (reset-done _ _ _ _ _ _ e)))

-- the run's own buffers, lent with others and had back
had_back : {A : Type 0} (b : Bool) (p q : A) → cond b (cond b p q) p ≡ p
had_back true p q = refl
had_back false p q = refl

mixed_back : (o : Own) (m x : Machine) → mixed o (mixed o m x) m ≡ m
mixed_back o m x =
    parts_machine
    (record {
      state-is = refl;
      plane-is = had_back o.plane m.picture.plane x.picture.plane;
      depth_is = had_back o.depth m.picture.depth x.picture.depth;
      floats_is = had_back o.depth_f m.picture.depth_f x.picture.depth_f;
      command-is = had_back o.area m.control.box.area x.control.box.area;
      textures-is = had_back o.textures m.control.box.textures.words x.control.box.textures.words;
      models-is = had_back o.models m.control.box.models.words x.control.box.models.words;
    })

-- rule 10.4: a refused call adds no history, and the run goes on from the state before it
pub feed_goes_on : (m : Machine) (o : Own) (x : Machine) (ws : List ℕ) → Allowed m (runs.feeds (runs.other o x) ws) → after m (runs.feeds (runs.other o x) ws) ≡ m
unfolding after
feed_goes_on m o x ws bad = rw (ne_eqb (feed_on (mixed o m x) ws).answer 0 bad) (ap (λ (y : Machine). mixed o y m) (feed-refused (mixed o m x) ws bad) ∙ mixed_back o m x)

pub reset_goes_on : (m : Machine) (o : Own) (x : Machine) → Allowed m (runs.resets (runs.other o x)) → after m (runs.resets (runs.other o x)) ≡ m
unfolding after
reset_goes_on m o x bad = rw (ne_eqb (reset_on (mixed o m x)).answer 0 bad) (ap (λ (y : Machine). mixed o y m) (reset-refused (mixed o m x) bad) ∙ mixed_back o m x)

-- ---- each call keeps the two alike
module _ (size : Kind → ℕ) (z : Sizes size) where
  after_runs : (c : Call) (m : Machine) (n : Seen Past) → Allowed m c → Runs size m n → Runs size (after m c) (plain_after size n c)
  unfolding after plain_after
  after_runs (runs.feeds runs.own ws) m n w r = rw (runs_fed z r ws) (fed_runs z r ws w)
  after_runs (runs.resets runs.own) m n w r = rw (runs_reset z r) (reset_runs size _ _ _ _ _ _ (runs_measured z r) (long-textures z r) (long-models z r))
  after_runs (runs.feeds (runs.other o x) ws) m n w r = rw (feed_goes_on m o x ws w) r
  after_runs (runs.resets (runs.other o x)) m n w r = rw (reset_goes_on m o x w) r

  all-run : (cs : List Call) (m : Machine) (n : Seen Past) → AllAllowed m cs → Runs size m n → Runs size (after_all m cs) (plain_all size n cs)
  unfolding after_all plain_all AllAllowed
  all-run [] m n a r = r
  all-run (c ∷ cs) m n a r = all-run cs (after m c) (plain_after size n c) a.1 (after_runs c m n a.0 r)

-- ---- DEMAND 3
module _ (P : List ℕ) (D : List ℤ) (F : List Float) (C T M : List ℕ) (done : (reset P D F C T M).answer ≡ 0) where
  right : lengths_ok (length P) (length D) (length F) (length C) (length T) (length M) ≡ true
  right = go (lengths_ok (length P) (length D) (length F) (length C) (length T) (length M)) refl
    where
      go : (b : Bool) → lengths_ok (length P) (length D) (length F) (length C) (length T) (length M) ≡ b → lengths_ok (length P) (length D) (length F) (length C) (length T) (length M) ≡ true
      go true e = e
      go false e =
          let one : (reset P D F C T M).answer ≡ 1 = ap (λ (o : Outcome). o.answer) (reset_wrong P D F C T M e) in
          absurd (omega arith)

  fit : Sizes (sizes T M)
  fit =
      let l = lengths (length P) (length D) (length F) (length C) (length T) (length M) right in
      record { textures = l.of-textures; models = l.of-models }

  start_runs : Runs (sizes T M) (reset P D F C T M).machine plain_start
  start_runs = rw (reset-done P D F C T M right) (reset_runs (sizes T M) P D F C T M right refl refl)

  -- what words leave, seen beside what they leave on the plain machine with stores of these lengths
  pub words-shown : (size : Kind → ℕ) → length T ≡ size Texture → length M ≡ size Model → (ws : List ℕ)
      → Shown (as_past size) (Kept size) (run as_box (reset P D F C T M).machine ws) (run (as_past size) plain_start ws)
  words-shown size t m ws = run_same (alike size) ws (reset P D F C T M).machine plain_start (rw (reset-done P D F C T M right) (reset_runs size P D F C T M right t m).shown)

  -- for words alone, in one call: no upload is moved, and none of the history is dropped
  pub words_alike : (ws : List ℕ)
      → ((run as_box (reset P D F C T M).machine ws).picture ≡ (run (as_past (sizes T M)) plain_start ws).picture)
      × ((run as_box (reset P D F C T M).machine ws).control.notes.status ≡ (run (as_past (sizes T M)) plain_start ws).control.notes.status)
  words_alike ws =
      let s = words-shown (sizes T M) refl refl ws in
      (s.picture, ap (λ (n : Notes). n.status) s.control.notes)

  -- after each call: any list of calls, so any beginning of it
  module _ (cs : List Call) (calls : AllAllowed (reset P D F C T M).machine cs) where
    runs_all : Runs (sizes T M) (after_all (reset P D F C T M).machine cs) (plain_all (sizes T M) plain_start cs)
    runs_all = all-run (sizes T M) fit cs (reset P D F C T M).machine plain_start calls start_runs

    -- plane, both depths and status are those of the plain machine
    pub demand3 : ((after_all (reset P D F C T M).machine cs).picture ≡ (plain_all (sizes T M) plain_start cs).picture)
        × ((after_all (reset P D F C T M).machine cs).control.notes.status ≡ (plain_all (sizes T M) plain_start cs).control.notes.status)
    demand3 = (runs_all.shown.picture, ap (λ (n : Notes). n.status) runs_all.shown.control.notes)

    -- a call with the state as returned and the same buffers is answered 0
    pub fed_done : (ws : List ℕ) → (feed_on (after_all (reset P D F C T M).machine cs) ws).answer ≡ 0
    fed_done ws = ap (λ (o : Outcome). o.answer) (runs_fed fit runs_all ws)

    pub reset_again : (reset_on (after_all (reset P D F C T M).machine cs)).answer ≡ 0
    reset_again = ap (λ (o : Outcome). o.answer) (runs_reset fit runs_all)

    -- rule 2.6: one call with all the words leaves what two calls leave, wherever they are cut
    pub cut_anywhere : (a b : List ℕ) → Small a
        → feed_on (after_all (reset P D F C T M).machine cs) (a ++ b) ≡ feed_on (feed_on (after_all (reset P D F C T M).machine cs) a).machine b
    cut_anywhere a b w =
        let m : Machine = after_all (reset P D F C T M).machine cs in
        runs_fed fit runs_all (a ++ b) ∙ ap (outcome 0) (run-append as_box m a b)
        ∙ rw (runs_fed fit runs_all a) (sym (runs_fed fit (fed_runs fit runs_all a w) b))

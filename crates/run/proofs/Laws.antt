-- Laws of the machine's definitions that the proofs cite: a word, and the loop over the words. Assumes nothing.
use Prim.Native.Nat.{ℕ, zero, suc, ◌+◌, ◌-◌, ◌/◌, ◌%◌, ◌<◌, ◌≤◌}
use mathlib.Core.Path.{◌≡◌, refl, sym, ap, ◌∙◌}
use mathlib.Core.Bool.{Bool, true, false, cond}
use mathlib.Core.List.{List, [], ◌∷◌, ◌++◌}
use native.Mathlib.Omega.{arith}
use native.Mathlib.Nat.{add-zero, sub-zero, le_refl}
use borrow.Author.Tests.{eq-eqb, ne_eqb, lt-ltb, le-ltb}
use lib.IntN.{ℤ}
use lib.Ieee.{Float}
use lib.ListN.{length, take, drop, get_or}
use lib.Seq.{drop-cons, take-take, length-take-le, paste, paste-zero, paste-suc}
use Rattle.screen.specs.Plane.{plane_bytes}
use Rattle.screen.specs.Draw.{pixels}
use Rattle.store.specs.declared.Kind.TheVariants.{Texture, Model}
use Rattle.std.specs.Prelude.{Option, None}
use Rattle.verdict.specs.Verdict.{Verdict}
use Rattle.verdict.specs.declared.Reason.TheVariants.{ZeroOpcode, CountTooLarge}
use Rattle.state.specs.State.{most_payload, begun_ok}
use Rattle.state.specs.declared.State.{State}
use Rattle.command.specs.declared.Command.{Command}
use Rattle.execute.specs.Paints.{paints_on}
use Rattle.command.specs.Command.{command_of}
use Rattle.execute.specs.Commands.{unknown}
use Rattle.execute.specs.Control.{Keep, Seen, execute, executed}
use Rattle.execute.specs.Kept.{Machine, control_of, machine, state_of, as_box, Formed}
use Rattle.execute.proofs.Formed.{Stands, execute_stands}
use Rattle.execute.proofs.Executed.{blank-executed, unknown-executed}
use Rattle.framing.specs.declared.Frame.{Frame}
use Rattle.run.specs.Framing.{word, header, gather, word_on, run}
use Rattle.framing.specs.Frames.{frame, frame_of, with_frame, dropped_frame, ended_frame, word_frame, word_area, ready_of, between_of, gathered_frame}
use Rattle.run.specs.Sound.{Sound}
use Rattle.framing.proofs.Words.{Case, zero-opcode, too_many, at_once, begins, last, more, case_of, idle, gathering, begun-fits, word_fits, word-begun, word-payload, area-header, area-payload, area-length, ready_idle, ready_whole, ready_wanting, between-fits, case_zero, case_many, case_begun}

-- machines that agree, part by part
pub record Same (s : State) (P : List ℕ) (D : List ℤ) (F : List Float) (C T M : List ℕ) (s' : State) (P' : List ℕ) (D' : List ℤ) (F' : List Float) (C' T' M' : List ℕ) : Type 0 where
  pub state-is : s ≡ s'
  pub plane-is : P ≡ P'
  pub depth_is : D ≡ D'
  pub floats_is : F ≡ F'
  pub command-is : C ≡ C'
  pub textures-is : T ≡ T'
  pub models-is : M ≡ M'

module _ {s s' : State} {P P' : List ℕ} {D D' : List ℤ} {F F' : List Float} {C C' T T' M M' : List ℕ} where
  pub machine_parts : machine s P D F C T M ≡ machine s' P' D' F' C' T' M' → Same s P D F C T M s' P' D' F' C' T' M'
  machine_parts e =
      record {
        state-is = ap state_of e;
        plane-is = ap (λ (m : Machine). m.picture.plane) e;
        depth_is = ap (λ (m : Machine). m.picture.depth) e;
        floats_is = ap (λ (m : Machine). m.picture.depth_f) e;
        command-is = ap (λ (m : Machine). m.control.box.area) e;
        textures-is = ap (λ (m : Machine). m.control.box.textures.words) e;
        models-is = ap (λ (m : Machine). m.control.box.models.words) e;
      }

  pub parts_machine : Same s P D F C T M s' P' D' F' C' T' M' → machine s P D F C T M ≡ machine s' P' D' F' C' T' M'
  parts_machine h = cc

-- a store of the machine that a state and lent words make is a store of theirs
module _ {s : State} {P : List ℕ} {D : List ℤ} {F : List Float} {C T M : List ℕ} {m : Machine} (e : machine s P D F C T M ≡ m) where
  pub textures_formed : Formed Texture m.control.box.textures.slots (length m.control.box.textures.words) → Formed Texture s.textures (length T)
  textures_formed h = rw (sym e) at h

  pub models_formed : Formed Model m.control.box.models.slots (length m.control.box.models.words) → Formed Model s.models (length M)
  models_formed h = rw (sym e) at h

-- and after a command both stores are well formed still
pub command_formed : {s : State} {P : List ℕ} {D : List ℤ} {F : List Float} {C T M : List ℕ} (m : Machine) → machine s P D F C T M ≡ executed as_box m
    → m.control.box.gathered ≤ most_payload → Stands m.control.box (length m.control.box.textures.words) (length m.control.box.models.words)
    → Formed Texture s.textures (length T) × Formed Model s.models (length M)
command_formed m e few h =
    let after = execute_stands m.control few h in
    (textures_formed e (rw after.textures.long after.textures.formed), models_formed e (rw after.models.long after.models.formed))

-- ---- one word on a machine
module _ (s : State) (P : List ℕ) (D : List ℤ) (F : List Float) (T M : List ℕ) where
  -- the machine with this frame and this command area
  abbrev at-frame : Frame → List ℕ → Machine
  at-frame f C = machine (with_frame s f) P D F C T M

  pub word_turn : (f : Frame) (C : List ℕ) (w : ℕ) → begun_ok f.opcode f.gathered f.wanted ≡ true
      → word_on as_box (machine (with_frame s f) P D F C T M) w
      ≡ cond (ready_of (word_frame f w)) (executed as_box (machine (with_frame s (word_frame f w)) P D F (word_area f w C) T M)) (machine (with_frame s (word_frame f w)) P D F (word_area f w C) T M)
  unfolding word header gather paints_on
  word_turn f C w ok = go (case_of f w)
    where
      go : Case f w → word_on as_box (at-frame f C) w ≡ cond (ready_of (word_frame f w)) (executed as_box (at-frame (word_frame f w) (word_area f w C))) (at-frame (word_frame f w) (word_area f w C))
      go (zero-opcode e z) =
          let i = idle _ _ _ ok e in
          rw (case_zero f w e z, area-header f w C e, ready_idle (dropped_frame f (w / 16777216) ZeroOpcode) e i.no_opcode, eq-eqb f.wanted 0 e, eq-eqb (w / 16777216) 0 z)
      go (too_many e o n) =
          let i = idle _ _ _ ok e in
          rw (case_many f w e o n, area-header f w C e, ready_idle (dropped_frame f (w / 16777216) CountTooLarge) e i.no_opcode, eq-eqb f.wanted 0 e, ne_eqb (w / 16777216) 0 o, lt-ltb most_payload (w % 16777216) n)
      go (at_once e o z) =
          let n : w % 16777216 ≤ most_payload = omega arith in
          rw (case_begun f w e o n, area-header f w C e, ready_whole (frame (w / 16777216) f.gathered (w % 16777216) f.notes) z o, eq-eqb f.wanted 0 e, ne_eqb (w / 16777216) 0 o, le-ltb most_payload (w % 16777216) n, eq-eqb (w % 16777216) 0 z, z)
      go (begins e o n z) =
          rw (case_begun f w e o n, area-header f w C e, ready_wanting (frame (w / 16777216) f.gathered (w % 16777216) f.notes) z, eq-eqb f.wanted 0 e, ne_eqb (w / 16777216) 0 o, le-ltb most_payload (w % 16777216) n, ne_eqb (w % 16777216) 0 z)
      go (last e) =
          let n : f.wanted ≡ 0 → ⊥ = λ z. omega arith in
          let g = gathering _ _ _ ok n in
          let o : f.opcode ≡ 0 → ⊥ = λ z. omega arith in
          let z : f.wanted - 1 ≡ 0 = omega arith in
          rw (word-payload f w n, area-payload f w C n, ready_whole (frame f.opcode (f.gathered + 1) (f.wanted - 1) f.notes) z o, ne_eqb f.wanted 0 n, eq-eqb f.wanted 1 e)
      go (more e) =
          let n : f.wanted ≡ 0 → ⊥ = λ z. omega arith in
          let o : f.wanted ≡ 1 → ⊥ = λ z. omega arith in
          let z : f.wanted - 1 ≡ 0 → ⊥ = λ z. omega arith in
          rw (word-payload f w n, area-payload f w C n, ready_wanting (frame f.opcode (f.gathered + 1) (f.wanted - 1) f.notes) z, ne_eqb f.wanted 0 n, ne_eqb f.wanted 1 o)

-- a command that was run leaves none begun
pub executed_idle : (m : Machine) → (s : State) (P : List ℕ) (D : List ℤ) (F : List Float) (C T M : List ℕ) → machine s P D F C T M ≡ executed as_box m
    → begun_ok s.opcode s.gathered s.wanted ≡ true
unfolding execute begun_ok
executed_idle m s P D F C T M e =
    let o : s.opcode ≡ 0 = ap (λ (n : Machine). n.control.opcode) e in
    let g : s.gathered ≡ 0 = ap (λ (n : Machine). n.control.box.gathered) e in
    let w : s.wanted ≡ 0 = ap (λ (n : Machine). n.control.wanted) e in
    rw (o, g, w)

-- ---- words, one after the other
module _ {X : Type 0} (K : Keep X) where
  pub run-append : (m : Seen X) (a b : List ℕ) → run K m (a ++ b) ≡ run K (run K m a) b
  unfolding run
  run-append m [] b = refl
  run-append m (w ∷ a) b = run-append (word_on K m w) a b

  pub run_turn : (m r : Seen X) {left rest : List ℕ} {w : ℕ} → left ≡ w ∷ rest → run K m left ≡ r → run K (word_on K m w) rest ≡ r
  unfolding run
  run_turn m r h p = rw h at p

  pub run_end : (m r : Seen X) (left : List ℕ) → length left ≡ 0 → run K m left ≡ r → m ≡ r
  unfolding run
  run_end m r [] h p = p
  run_end m r (w ∷ left) h p = absurd (omega arith)

-- ---- a loop over the words: what is left of them, run from here, is the whole run
pub record Held (ws : List ℕ) (m₀ : Machine) (s : State) (f : Frame) (P : List ℕ) (D : List ℤ) (F : List Float) (C T M left : List ℕ) : Type 0 where
  pub small : (i : ℕ) → get_or left i 0 < 4294967296
  pub sound : Sound (with_frame s f) (length P) (length D) (length F) (length C) (length T) (length M)
  pub same_textures : length T ≡ length m₀.control.box.textures.words
  pub same_models : length M ≡ length m₀.control.box.models.words
  pub rest : run as_box (machine (with_frame s f) P D F C T M) left ≡ run as_box m₀ ws

-- what a command that is to be run asks
pub record Runs (s : State) (P : List ℕ) (D : List ℤ) (F : List Float) (C T M : List ℕ) : Type 0 where
  pub of-plane : length P ≡ plane_bytes
  pub of-depth : length D ≡ pixels
  pub of_floats : length F ≡ pixels
  pub within : s.gathered ≤ length C
  pub of-command : length C ≡ most_payload
  pub of-textures : Formed Texture s.textures (length T)
  pub of-models : Formed Model s.models (length M)

pub held_start : (ws : List ℕ) (s : State) {f : Frame} (P : List ℕ) (D : List ℤ) (F : List Float) (C T M : List ℕ)
    → Sound s (length P) (length D) (length F) (length C) (length T) (length M) → f ≡ frame_of s
    → ((i : ℕ) → get_or ws i 0 < 4294967296) → Held ws (machine s P D F C T M) s f P D F C T M ws
held_start ws s P D F C T M h e l = rw e (record { small = l; sound = h; same_textures = refl; same_models = refl; rest = refl })

module _ {ws : List ℕ} {m₀ : Machine} {s : State} {f : Frame} {P : List ℕ} {D : List ℤ} {F : List Float} {C T M left : List ℕ} (held : Held ws m₀ s f P D F C T M left) where
  -- what is asked to take a word
  pub held_takes : f.gathered + f.wanted ≤ length C
  held_takes = rw held.sound.of-command (begun-fits _ _ _ held.sound.begun)

  pub held_end : {r : State} → length left ≡ 0 → r ≡ with_frame s f → machine r P D F C T M ≡ run as_box m₀ ws
  held_end l e = rw e (run_end as_box _ _ left l held.rest)

  -- One turn, from what the callees ensure of their results
  module _ {w : ℕ} {f' : Frame} {C' : List ℕ} {rest : List ℕ} (is-more : left ≡ w ∷ rest) (frame_is : f' ≡ word_frame f w) (area-is : C' ≡ word_area f w C) where
    turned : (b : Bool) → ready_of f' ≡ b
        → word_on as_box (machine (with_frame s f) P D F C T M) w ≡ cond b (executed as_box (machine (with_frame s f') P D F C' T M)) (machine (with_frame s f') P D F C' T M)
    turned b r = rw (← r, frame_is, area-is) (word_turn s P D F T M f C w held.sound.begun)

    same_area : length C' ≡ length C
    same_area = ap length area-is ∙ area-length f w C

    small_rest : (i : ℕ) → get_or rest i 0 < 4294967296
    small_rest i = rw is-more at (held.small (suc i))

    pub held_word : ready_of f' ≡ false → Held ws m₀ s f' P D F C' T M rest
    held_word r =
        let h = held.sound in
        let l : w < 4294967296 = rw is-more at (held.small 0) in
        record {
          small = small_rest;
          sound = record {
            of-plane = h.of-plane;
            of-depth = h.of-depth;
            of_floats = h.of_floats;
            of-command = same_area ∙ h.of-command;
            begun = rw frame_is (word-begun f w h.begun l (ap ready_of (sym frame_is) ∙ r));
            of-textures = h.of-textures;
            of-models = h.of-models;
          };
          same_textures = held.same_textures;
          same_models = held.same_models;
          rest = rw (turned false r) at (run_turn as_box _ _ is-more held.rest);
        }

    -- what a command that is to be run may count on
    pub held_runs : {t : State} → t ≡ with_frame s f' → Runs t P D F C' T M
    held_runs e =
        let h = held.sound in
        let g : f'.gathered + f'.wanted ≤ most_payload = rw frame_is (word_fits f w h.begun) in
        let n : length C' ≡ most_payload = same_area ∙ h.of-command in
        rw e
        (record {
          of-plane = h.of-plane;
          of-depth = h.of-depth;
          of_floats = h.of_floats;
          within = omega arith;
          of-command = n;
          of-textures = h.of-textures;
          of-models = h.of-models;
        })

    -- what the command is, in a state with this frame
    pub held-is : {t : State} {r c : Option Command} → t ≡ with_frame s f' → r ≡ command_of f'.opcode → r ≡ c → command_of t.opcode ≡ c
    held-is e a b = ap (λ (x : State). command_of x.opcode) e ∙ sym a ∙ b

    -- for a command that paints nothing
    pub held-command : {t s'' : State} {f'' : Frame} {T'' M'' : List ℕ}
        → ready_of f' ≡ true → t ≡ with_frame s f' → (execute as_box (control_of t C' T M)).paints ≡ []
        → control_of s'' C' T'' M'' ≡ (execute as_box (control_of t C' T M)).control
        → length T'' ≡ length T → length M'' ≡ length M
        → length t.textures ≡ 64 → length t.models ≡ 64 → f'' ≡ frame_of s''
        → Held ws m₀ s'' f'' P D F C' T'' M'' rest
    held-command {t = t'} {s'' = s''} {T'' = T''} {M'' = M''} r e z c t m a b y =
        let h = held.sound in
        let x : machine s'' P D F C' T'' M'' ≡ executed as_box (machine t' P D F C' T M) = blank-executed t' C' T M P D F s'' T'' M'' z c in
        let runs = held_runs {t = t'} e in
        let few : t'.gathered ≤ most_payload = omega (arith, runs.within, runs.of-command) in
        let formed = command_formed (machine t' P D F C' T M) x few
        (record { textures = record { slots = a; long = refl; formed = runs.of-textures }; models = record { slots = b; long = refl; formed = runs.of-models } }) in
        let idle = executed_idle _ _ _ _ _ _ _ _ x in
        rw y
        (record {
          small = small_rest;
          sound = record {
            of-plane = h.of-plane;
            of-depth = h.of-depth;
            of_floats = h.of_floats;
            of-command = same_area ∙ h.of-command;
            begun = idle;
            of-textures = formed.0;
            of-models = formed.1;
          };
          same_textures = t ∙ held.same_textures;
          same_models = m ∙ held.same_models;
          rest = rw x (rw e (rw (turned true r) at (run_turn as_box _ _ is-more held.rest)));
        })

    -- for a command that leaves settings and stores alone
    pub held-painted : {f'' : Frame} {P'' : List ℕ} {D'' : List ℤ} {F'' : List Float}
        → ready_of f' ≡ true
        → machine (with_frame s f'') P'' D'' F'' C' T M ≡ executed as_box (machine (with_frame s f') P D F C' T M)
        → length P'' ≡ length P → length D'' ≡ length D → length F'' ≡ length F
        → Held ws m₀ s f'' P'' D'' F'' C' T M rest
    held-painted r x p d g =
        let h = held.sound in
        record {
          small = small_rest;
          sound = record {
            of-plane = p ∙ h.of-plane;
            of-depth = d ∙ h.of-depth;
            of_floats = g ∙ h.of_floats;
            of-command = same_area ∙ h.of-command;
            begun = executed_idle _ _ _ _ _ _ _ _ x;
            of-textures = h.of-textures;
            of-models = h.of-models;
          };
          same_textures = held.same_textures;
          same_models = held.same_models;
          rest = rw x (rw (turned true r) at (run_turn as_box _ _ is-more held.rest));
        }

    -- and of one that is unknown, which paints nothing either
    pub held-unknown : {f'' : Frame} {v : Verdict} → ready_of f' ≡ true → command_of f'.opcode ≡ None → v ≡ unknown → f'' ≡ ended_frame f' v
        → Held ws m₀ s f'' P D F C' T M rest
    held-unknown {f'' = f''} r h u e = held-painted r (unknown-executed (with_frame s f') C' T M P D F (with_frame s f'') h (ap (with_frame s) (rw u at e))) refl refl refl

-- ---- a run of payload words, none of them the last, is copied at once
-- the place of word n of a run in the command area
in_area : (g w n c : ℕ) → suc n ≤ w - 1 → g + w ≤ c → g + n < c
in_area g w n c a h = omega arith

module _ {ws : List ℕ} {m₀ : Machine} {s : State} {f : Frame} {P : List ℕ} {D : List ℤ} {F : List Float} {C T M left : List ℕ} (held : Held ws m₀ s f P D F C T M left) where
  -- word by word
  gathers : (n : ℕ) → n ≤ f.wanted - 1 → n ≤ length left → Held ws m₀ s (gathered_frame f n) P D F (paste C f.gathered left n) T M (drop n left)
  gathers zero a b = rw (← paste-zero C f.gathered left, add-zero f.gathered, sub-zero f.wanted) held
  gathers (suc n) a b =
      let g : f.gathered + suc n ≡ f.gathered + n + 1 = omega arith in
      let w : f.wanted - suc n ≡ f.wanted - n - 1 = omega arith in
      let wants : f.wanted - n ≡ 0 → ⊥ = λ z. omega (arith, a) in
      let wants-still : f.wanted - suc n ≡ 0 → ⊥ = λ z. omega (arith, a) in
      held_word (gathers n (omega (arith, a)) (omega (arith, b))) {w = get_or left n 0} (drop-cons left n 0 (omega (arith, b))) (rw (g, w) (sym (word-payload (gathered_frame f n) (get_or left n 0) wants)))
      (sym (area-payload (gathered_frame f n) (get_or left n 0) (paste C f.gathered left n) wants
      ∙ paste-suc C f.gathered left n 0 (in_area f.gathered f.wanted n (length C) a (held_takes held)) (omega (arith, b))))
      (ready_wanting (gathered_frame f (suc n)) wants-still)

  module _ {n : ℕ} (is : n ≡ between_of f (length left)) where
    run_length : length (take n left) ≡ n
    run_length = length-take-le n left (between-fits f (length left) n is).there

    -- what is asked to copy it
    pub held_fits : {run : List ℕ} → run ≡ take n left → length run ≤ f.wanted
    held_fits e = rw e (omega (arith, run_length, (between-fits f (length left) n is).before_last))

    -- from what the callee ensures of its results
    pub held-gathered : {f' : Frame} {C' run after : List ℕ} → run ≡ take n left → after ≡ drop n left
        → f' ≡ gathered_frame f (length run) → C' ≡ paste C f.gathered run (length run) → Held ws m₀ s f' P D F C' T M after
    held-gathered r d x y = rw (d, x, y, r, run_length, take-take n n left (le_refl n)) (gathers n (between-fits f (length left) n is).before_last (between-fits f (length left) n is).there)

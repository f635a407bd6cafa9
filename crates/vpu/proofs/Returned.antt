-- A returned state is well formed if the given one was, whatever the words: a word keeps a control well formed, and so does a run of them. Assumes nothing.
use Prim.Native.Nat.{ℕ, ◌+◌, ◌-◌, ◌/◌, ◌%◌, ◌≤◌, ◌<◌}
use mathlib.Core.Path.{◌≡◌, refl}
use mathlib.Core.Bool.{Bool, true, false, cond}
use mathlib.Core.List.{List, [], ◌∷◌}
use native.Mathlib.Omega.{arith}
use lib.Dec.{eqb, ltb}
use lib.IntN.{ℤ}
use lib.Ieee.{Float}
use lib.ListN.{length}
use borrow.Author.Tests.{eqb-true, eqb-false, ltb-false}
use Rattle.settings.specs.Settings.{settings_ok}
use Rattle.verdict.specs.declared.Reason.TheVariants.{ZeroOpcode, CountTooLarge}
use Rattle.verdict.specs.Verdict.{refused}
use Rattle.state.specs.State.{most_payload, begun_ok, well_formed}
use Rattle.state.specs.declared.State.{State}
use Rattle.state.proofs.Formed.{parts, formed, begun_made, begun-nothing, begun_idle, begun_op}
use Rattle.execute.specs.Control.{Control, Step, execute}
use Rattle.execute.specs.Kept.{Box, as_box, Machine, machine, state_of}
use Rattle.execute.proofs.Formed.{Stands, execute_stands, execute-settings, execute_idle}
use Rattle.run.specs.Framing.{still, dropped, begun, header, taken, gather, word, word_on, run}
use Rattle.vpu.specs.Calls.{Small, Outcome, outcome, lengths_ok, feed}
use Rattle.vpu.proofs.Laws.{lengths}

-- a control that is well formed, with stores of t and m words
record Good (c : Control Box) (t m : ℕ) : Type 0 where
  settings : settings_ok c.settings ≡ true
  begun_ok : begun_ok c.opcode c.box.gathered c.wanted ≡ true
  stands : Stands c.box t m

module _ {t m : ℕ} where
  executed_good : (c : Control Box) → settings_ok c.settings ≡ true → c.box.gathered ≤ most_payload → Stands c.box t m → Good (execute as_box c).control t m
  executed_good c s g h =
      let i = execute_idle c in
      record { settings = execute-settings c s; begun_ok = rw (i.0, i.1.0, i.1.1) begun-nothing; stands = execute_stands c g h }

  either_good : (b : Bool) (x y : Step Box) → (b ≡ true → Good x.control t m) → (b ≡ false → Good y.control t m) → Good (cond b x y).control t m
  either_good true x y p q = p refl
  either_good false x y p q = q refl

  header_good : (c : Control Box) (op n : ℕ) → Good c t m → c.wanted ≡ 0 → op ≤ 255 → Good (header as_box c op n).control t m
  unfolding header
  header_good c op n h z small =
      let i = begun_idle c.opcode c.box.gathered c.wanted h.begun_ok z in
      let same : (v : _) → Good (dropped as_box c op v).control t m = λ v. record { settings = h.settings; begun_ok = h.begun_ok; stands = h.stands } in
      either_good (eqb op 0) (dropped as_box c op (refused ZeroOpcode 0)) _ (λ e. same (refused ZeroOpcode 0))
      (λ e. either_good (ltb most_payload n) (dropped as_box c op (refused CountTooLarge 0)) _ (λ f. same (refused CountTooLarge 0))
      (λ f. either_good (eqb n 0) (execute as_box (begun as_box c op 0)) (still as_box (begun as_box c op n))
      (λ g. executed_good (begun as_box c op 0) h.settings (rw i.1 (omega arith)) h.stands)
      (λ g. record {
        settings = h.settings;
        begun_ok = begun_made c.box.gathered n op (above op (eqb-false op 0 e)) small (above n (eqb-false n 0 g)) (omega (arith, i.1, ltb-false most_payload n f));
        stands = h.stands;
      })))
    where
      above : (x : ℕ) → (x ≡ 0 → ⊥) → 0 < x
      above x e = omega arith

  gather_good : (c : Control Box) (w : ℕ) → Good c t m → 0 < c.wanted → Good (gather as_box c w).control t m
  unfolding gather
  gather_good c w h some =
      let o = begun_op c.opcode c.box.gathered c.wanted h.begun_ok some in
      let stays : Stands (taken as_box c w).box t m = record { textures = h.stands.textures; models = h.stands.models } in
      either_good (eqb c.wanted 1) (execute as_box (taken as_box c w)) (still as_box (taken as_box c w))
      (λ e. executed_good (taken as_box c w) h.settings (omega (arith, o.1.1)) stays)
      (λ e. record {
        settings = h.settings;
        begun_ok = begun_made (c.box.gathered + 1) (c.wanted - 1) c.opcode o.0 o.1.0 (more c.wanted some (eqb-false c.wanted 1 e)) (omega (arith, o.1.1));
        stands = stays;
      })
    where
      more : (x : ℕ) → 0 < x → (x ≡ 1 → ⊥) → 0 < x - 1
      more x a b = omega arith

  word_good : (c : Control Box) (w : ℕ) → w < 4294967296 → Good c t m → Good (word as_box c w).control t m
  unfolding word
  word_good c w small h =
      either_good (eqb c.wanted 0) (header as_box c (w / 16777216) (w % 16777216)) (gather as_box c w)
      (λ e. header_good c (w / 16777216) (w % 16777216) h (eqb-true c.wanted 0 e) (omega arith))
      (λ e. gather_good c w h (above c.wanted (eqb-false c.wanted 0 e)))
    where
      above : (x : ℕ) → (x ≡ 0 → ⊥) → 0 < x
      above x e = omega arith

  run_good : (ws : List ℕ) (x : Machine) → Small ws → Good x.control t m → Good (run as_box x ws).control t m
  unfolding run
  run_good [] x s h = h
  run_good (w ∷ ws) x s h = run_good ws (word_on as_box x w) s.1 (word_good x.control w s.0 h)

-- for any call that feeds: whatever it answers, the state that it gives back is well formed if the given one was, for the same stores
pub returned_formed : (s : State) (ws : List ℕ) (P : List ℕ) (D : List ℤ) (F : List Float) (C T M : List ℕ) → length s.textures ≡ 64 → length s.models ≡ 64 → Small ws
    → well_formed s (length T) (length M) ≡ true → well_formed (state_of (feed s ws P D F C T M).machine) (length T) (length M) ≡ true
unfolding feed
returned_formed s ws P D F C T M a b w h = rw h (go (lengths_ok (length P) (length D) (length F) (length C) (length T) (length M)) refl)
  where
    kept : lengths_ok (length P) (length D) (length F) (length C) (length T) (length M) ≡ true → well_formed (state_of (run as_box (machine s P D F C T M) ws)) (length T) (length M) ≡ true
    kept e =
        let l = lengths (length P) (length D) (length F) (length C) (length T) (length M) e in
        let p = parts s (length T) (length M) h in
        let good : Good (machine s P D F C T M).control (length T) (length M) = record {
          settings = p.settings;
          begun_ok = p.begun;
          stands = record {
            textures = record { slots = a; long = refl; formed = record { ok = p.textures; few = l.of-textures } };
            models = record { slots = b; long = refl; formed = record { ok = p.models; few = l.of-models } };
          };
        } in
        let after = run_good ws (machine s P D F C T M) w good in
        formed (state_of (run as_box (machine s P D F C T M) ws)) (length T) (length M)
        (record { settings = after.settings; begun = after.begun_ok; textures = after.stands.textures.formed.ok; models = after.stands.models.formed.ok })

    go : (x : Bool) → lengths_ok (length P) (length D) (length F) (length C) (length T) (length M) ≡ x
        → well_formed (state_of (cond {A = Outcome} x (outcome 0 (run as_box (machine s P D F C T M) ws)) (outcome 1 (machine s P D F C T M))).machine) (length T) (length M) ≡ true
    go true e = kept e
    go false e = h

-- Two ways of keeping uploads that answer alike give machines that are seen alike, word by word: the same settings, notes and command begun, and the same paints, so the same picture. Assumes nothing.
use Prim.Native.Nat.{ℕ, suc, ◌+◌, ◌-◌, ◌/◌, ◌%◌, ◌≤◌, ◌<◌}
use Rattle.verdict.specs.Verdict.{Verdict, refused}
use Rattle.std.specs.Prelude.{Result, Ok, Err, ⊤}
use mathlib.Core.Path.{◌≡◌, refl, ap, ◌∙◌}
use mathlib.Core.Bool.{Bool, true, false, cond}
use mathlib.Core.Option.{Option, none, some}
use mathlib.Core.List.{List, [], ◌∷◌}
use native.Mathlib.Omega.{arith}
use lib.Dec.{eqb, ltb}
use lib.ListN.{length}
use borrow.Author.Tests.{eqb-true, eqb-false, ltb-false}
use Rattle.verdict.specs.Verdict.{noted_of}
use Rattle.verdict.specs.declared.Notes.{Notes}
use Rattle.verdict.specs.declared.Reason.TheVariants.{ZeroOpcode, CountTooLarge}
use Rattle.store.specs.declared.NoRoom.{NoRoom}
use Rattle.store.specs.declared.NoRoom.TheVariants.{NoSlot, NoWords}
use Rattle.store.specs.Slots.{is_fits}
use Rattle.state.specs.State.{most_payload}
use Rattle.execute.specs.Commands.{Load, Told, told}
use Rattle.execute.specs.Control.{Keep, Control, Step, Seen, verdict_of, kept_of, ended, execute}
use Rattle.execute.proofs.Formed.{Passed, load_passed}
use Rattle.run.specs.Framing.{dropped, begun, header, taken, gather, word, word_on, run}
use Rattle.claims.specs.Alike.{Alike}

-- two controls that are seen alike, with what a begun command has yet to come within the command area
pub record Same {X Y : Type 0} (P : Keep Y) (Rel : X → Y → Type 0) (c : Control X) (d : Control Y) : Type 0 where
  pub settings : c.settings ≡ d.settings
  pub notes : c.notes ≡ d.notes
  pub opcode : c.opcode ≡ d.opcode
  pub wanted : c.wanted ≡ d.wanted
  pub box : Rel c.box d.box
  pub bound : length (P.payload d.box) + d.wanted ≤ most_payload
  pub idle : d.wanted ≡ 0 → length (P.payload d.box) ≡ 0

-- and two steps, that paint the same
pub record Steps {X Y : Type 0} (P : Keep Y) (Rel : X → Y → Type 0) (s : Step X) (r : Step Y) : Type 0 where
  pub control : Same P Rel s.control r.control
  pub paints : s.paints ≡ r.paints

-- and two machines, that show the same picture
pub record Shown {X Y : Type 0} (P : Keep Y) (Rel : X → Y → Type 0) (m : Seen X) (n : Seen Y) : Type 0 where
  pub control : Same P Rel m.control n.control
  pub picture : m.picture ≡ n.picture

module _ {X Y : Type 0} {K : Keep X} {P : Keep Y} {Rel : X → Y → Type 0} (A : Alike K P Rel) where
  -- ---- a command
  verdict_same : (x : X) (y : Y) → Rel x y → (t : Told) (o : Option Load) → verdict_of K x t o ≡ verdict_of P y t o
  verdict_same x y h t none = refl
  verdict_same x y h t (some l) = rw (A.room_same x y l h)

  kept_same : (x : X) (y : Y) → Rel x y → (o : Option Load) → Passed o → Rel (kept_of K x o) (kept_of P y o)
  kept_same x y h none q = h
  kept_same x y h (some l) q = rw (A.room_same x y l h) (go (P.room y l) refl)
    where
      go : (r : Result ⊤ NoRoom) → P.room y l ≡ r → Rel (cond (is_fits r) (K.put x l) x) (cond (is_fits r) (P.put y l) y)
      go (Ok u) e = A.put-kept x y l h (record { sides = q.sides; size = q.size }) e
      go (Err NoSlot) e = h
      go (Err NoWords) e = h

  noted_same : {n m : Notes} {o p : ℕ} {v u : Verdict} → n ≡ m → o ≡ p → v ≡ u → noted_of n o v ≡ noted_of m p u
  noted_same {n} {m} {o} {p} {v} {u} a b c = ap (λ (x : Notes). noted_of x o v) a ∙ ap (λ (x : ℕ). noted_of m x v) b ∙ ap (noted_of m p) c

  ended_same : (c : Control X) (d : Control Y) → c.notes ≡ d.notes → c.opcode ≡ d.opcode → Rel c.box d.box → (t : Told) → Passed t.load → Same P Rel (ended K c t) (ended P d t)
  ended_same c d s o h t q =
      let none_left : length (P.payload (P.clear (kept_of P d.box t.load))) ≡ 0 = A.clear-length (kept_of P d.box t.load) in
      record {
        settings = refl;
        notes = noted_same s o (verdict_same c.box d.box h t t.load);
        opcode = refl;
        wanted = refl;
        box = A.clear_kept _ _ (kept_same c.box d.box h t.load q);
        bound = omega (arith, none_left);
        idle = λ z. none_left;
      }

  pub execute_same : (c : Control X) (d : Control Y) → c.settings ≡ d.settings → c.notes ≡ d.notes → c.opcode ≡ d.opcode → Rel c.box d.box
      → length (P.payload d.box) ≤ most_payload → Steps P Rel (execute K c) (execute P d)
  unfolding execute
  execute_same c d a b o h short =
      let t : Told = told (P.look d.box) d.settings d.opcode (P.payload d.box) in
      let same : told (K.look c.box) c.settings c.opcode (K.payload c.box) ≡ t = rw (A.look_same c.box d.box h, a, o, A.payload_same c.box d.box h) in
      rw same
      (record {
        control = ended_same c d b o h t (load_passed d.settings (P.payload d.box) short d.opcode (P.look d.box));
        paints = refl;
      })

  -- ---- a word
  either : (b : Bool) {x y : Step X} {x' y' : Step Y} → (b ≡ true → Steps P Rel x x') → (b ≡ false → Steps P Rel y y') → Steps P Rel (cond b x y) (cond b x' y')
  either true p q = p refl
  either false p q = q refl

  dropped_same : (c : Control X) (d : Control Y) (op : ℕ) (v : Verdict) → Same P Rel c d → Steps P Rel (dropped K c op v) (dropped P d op v)
  dropped_same c d op v s = record {
    control = record { settings = s.settings; notes = ap (λ (x : Notes). noted_of x op v) s.notes; opcode = s.opcode; wanted = s.wanted; box = s.box; bound = s.bound; idle = s.idle };
    paints = refl;
  }

  header_same : (c : Control X) (d : Control Y) (op n : ℕ) → Same P Rel c d → d.wanted ≡ 0 → Steps P Rel (header K c op n) (header P d op n)
  unfolding header
  header_same c d op n s z =
      let nothing : length (P.payload d.box) ≡ 0 = s.idle z in
      either (eqb op 0) (λ e. dropped_same c d op (refused ZeroOpcode 0) s)
      (λ e. either (ltb most_payload n) (λ f. dropped_same c d op (refused CountTooLarge 0) s)
      (λ f. either (eqb n 0) (λ g. execute_same (begun K c op 0) (begun P d op 0) s.settings s.notes refl s.box (omega arith))
      (λ g. record {
        control = record { settings = s.settings; notes = s.notes; opcode = refl; wanted = refl; box = s.box; bound = omega (arith, ltb-false most_payload n f); idle = λ y. absurd (eqb-false n 0 g y) };
        paints = refl;
      })))

  gather_same : (c : Control X) (d : Control Y) (w : ℕ) → Same P Rel c d → (d.wanted ≡ 0 → ⊥) → Steps P Rel (gather K c w) (gather P d w)
  unfolding gather
  gather_same c d w s n =
      let below : length (P.payload d.box) < most_payload = omega (arith, s.bound) in
      let longer : length (P.payload (P.add w d.box)) ≡ suc (length (P.payload d.box)) = A.add-length w d.box in
      let more : Rel (K.add w c.box) (P.add w d.box) = A.add_kept w c.box d.box s.box below in
      rw (ap (λ (x : ℕ). eqb x 1) s.wanted)
      (either (eqb d.wanted 1) (λ e. execute_same (taken K c w) (taken P d w) s.settings s.notes s.opcode more (omega arith))
      (λ e. record {
        control = record {
          settings = s.settings;
          notes = s.notes;
          opcode = s.opcode;
          wanted = ap (λ (x : ℕ). x - 1) s.wanted;
          box = more;
          bound = omega (arith, s.bound);
          idle = λ z. absurd (eqb-false d.wanted 1 e (omega arith));
        };
        paints = refl;
      }))

  pub word_same : (c : Control X) (d : Control Y) (w : ℕ) → Same P Rel c d → Steps P Rel (word K c w) (word P d w)
  unfolding word
  word_same c d w s =
      rw (ap (λ (x : ℕ). eqb x 0) s.wanted)
      (either (eqb d.wanted 0) (λ e. header_same c d (w / 16777216) (w % 16777216) s (eqb-true d.wanted 0 e))
      (λ e. gather_same c d w s (eqb-false d.wanted 0 e)))

  -- ---- and a run of words
  pub run_same : (ws : List ℕ) (m : Seen X) (n : Seen Y) → Shown P Rel m n → Shown P Rel (run K m ws) (run P n ws)
  unfolding run
  run_same [] m n s = s
  run_same (w ∷ ws) m n s =
      let r = word_same m.control n.control w s.control in
      run_same ws (word_on K m w) (word_on P n w) (record { control = r.control; picture = rw (r.paints, s.picture) })

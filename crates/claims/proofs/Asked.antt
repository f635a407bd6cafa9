-- What demand 3 says of the plain machine: a draw gets the last accepted upload under its number and is refused for want of one exactly if there is none; there is no room exactly by the store rule over the history. Assumes nothing.
use Prim.Native.Nat.{ℕ, ◌+◌, ◌≤◌}
use Rattle.verdict.specs.Verdict.{Verdict, done, refused}
use Rattle.std.specs.Prelude.{Result, Ok, Err, ⊤}
use mathlib.Core.Path.{◌≡◌, refl, sym, ap, ◌∙◌}
use mathlib.Core.Bool.{Bool, true, false, cond, not, ◌&&◌, ◌||◌}
use mathlib.Core.Option.{Option, none, some}
use mathlib.Core.List.{List, [], ◌∷◌, map}
use native.Mathlib.Omega.{arith}
use lib.Bits.{bit_or}
use lib.Dec.{eqb, leb, ltb}
use lib.Ieee.{Float}
use lib.ListN.{length}
use borrow.Author.Tests.{eqb-true, eqb-false, le-leb}
use Rattle.verdict.specs.Verdict.{number_of, bits_of}
use Rattle.verdict.specs.declared.Reason.{Reason}
use Rattle.verdict.specs.declared.Reason.TheVariants.{NotHeld}
use Rattle.payload.specs.Words.{when_done, word_at}
use Rattle.settings.specs.declared.Settings.{Settings}
use Rattle.store.specs.declared.Kind.{Kind}
use Rattle.store.specs.declared.Kind.TheVariants.{Texture, Model}
use Rattle.store.specs.declared.NoRoom.{NoRoom}
use Rattle.store.specs.declared.NoRoom.TheVariants.{NoSlot, NoWords}
use Rattle.store.specs.Uploads.{Whole, Card, cards, find, holds, without, live, total, room, is_some}
use Rattle.store.specs.Slots.{is_fits}
use Rattle.store.proofs.Laws.{cards-without, live-without}
use Rattle.decide.specs.Verdicts.{checked_verdict, textured_verdict, records_verdict}
use Rattle.draw.specs.Draws.{textured_strokes, records_strokes}
use Rattle.execute.specs.Paints as paints
use Rattle.command.specs.declared.Draw.TheVariants as draw
use Rattle.execute.specs.Commands.{Look, Load, Told, tells, told_by, texture_in, model_in, texture_verdict, count_verdict, textured_painted, told}
use Rattle.execute.specs.Control.{Control, room_verdict, execute}
use Rattle.execute.proofs.Told.{told_as_lem, command-of_17, command-of_18, command-of_19, command-of_1a}
use Rattle.execute.proofs.Painted.{painted-whole}
use Rattle.claims.proofs.Refused.{model_none, model_exact}
use Rattle.claims.proofs.Reasons.{checked_so, told_so}
use Rattle.claims.specs.Asked.{none_left, another, Finds, Draws, ruled, Lower}
use Rattle.claims.specs.Plain.{Past, past, history, accepted, as_past}

-- ---- the last accepted upload of a kind under a number
pub finds : (n : ℕ) (h : List Whole) → Finds n h (find n h)
finds n [] = none_left
finds n (v ∷ h) = go (finds n h) (eqb v.number n) refl
  where
    later : (v.number ≡ n → ⊥) → (o : Option Whole) → Finds n h o → Finds n (v ∷ h) o
    later e none a = another e a
    later e (some u) l = record { newer = v ∷ l.newer; older = l.older; is = ap (λ (x : List Whole). v ∷ x) l.is; number = l.number; apart = another e l.apart }

    go : Finds n h (find n h) → (b : Bool) → eqb v.number n ≡ b → Finds n (v ∷ h) (cond b (some v) (find n h))
    go f true e = record { newer = []; older = h; is = refl; number = eqb-true v.number n e; apart = none_left }
    go f false e = later (eqb-false v.number n e) (find n h) f

-- ---- the checks after the number never give the reason that it is not held
abbrev pub Other : Verdict → Type 0
Other v = (i : ℕ) → v ≡ refused NotHeld i → ⊥

pub done-other : Other done
done-other i e = let z : ◌≡◌ {A = ℕ} 0 1 = cc in omega arith

-- another reason is another
pub differs : {r : Reason} (j : ℕ) → (number_of r ≡ 7 → ⊥) → Other (refused r j)
differs j d i e = d (ap number e)
  where
    number : Verdict → ℕ
    number (Ok u) = 7
    number (Err e) = number_of e.reason

pub checked_other : (p : List ℕ) (normal : Bool) (m : List Float) (i : ℕ) → checked_verdict p normal m ≡ refused NotHeld i → ⊥
checked_other p normal m = checked_so Other done-other (λ i. differs i (λ e. omega arith)) (λ i. differs i (λ e. omega arith)) (differs 0 (λ e. omega arith)) p normal m

-- ---- 18 and 19, of right length and mode
textured_verdict_lem : (p : List ℕ) (normal held : Bool) (m : List Float) → word_at p 1 ≤ 2 → textured_verdict p normal held m ≡ cond held (checked_verdict p normal m) (refused NotHeld 0)
unfolding textured_verdict
textured_verdict_lem p normal true m h = rw (le-leb (word_at p 1) 2 h)
textured_verdict_lem p normal false m h = rw (le-leb (word_at p 1) 2 h)

-- a textured triangle, by what is found under its number
abbrev triangle : Settings → List ℕ → Bool → Option Whole → Told
triangle s p normal o = tells (textured_verdict p normal (is_some o) s.matrices) s (map paints.stroked (textured_strokes s p normal o))

found_draws : (s : Settings) (p : List ℕ) → word_at p 1 ≤ 2 → (normal : Bool) (o : Option Whole) → Draws o s p normal (triangle s p normal o)
found_draws s p mode normal none = record { wanting = λ e. textured_verdict_lem p normal false s.matrices mode; only = λ i e. refl; gets = refl }
found_draws s p mode normal (some u) = record {
  wanting = λ e. let z : ◌≡◌ {A = ℕ} 0 1 = cc in absurd (omega arith);
  only = λ i e. absurd (checked_other p normal s.matrices i (rw (textured_verdict_lem p normal true s.matrices mode) at e));
  gets = refl;
}

module _ (size : Kind → ℕ) (h : Past) (s : Settings) (p : List ℕ) (mode : word_at p 1 ≤ 2) where
  textured_draws : (normal : Bool) → Draws (find (word_at p 0) h.textures) s p normal (told_by s (textured_painted ((as_past size).look h) s normal p))
  unfolding textured_painted
  textured_draws normal = found_draws s p mode normal (find (word_at p 0) h.textures)

  pub draw_18 : length p ≡ 20 → Draws (find (word_at p 0) h.textures) s p false (told ((as_past size).look h) s 0x18 p)
  draw_18 n = rw (told_as_lem ((as_past size).look h) s 0x18 p command-of_18, painted-whole ((as_past size).look h) s (draw.Textured false) p n) (textured_draws false)

  pub draw_19 : length p ≡ 29 → Draws (find (word_at p 0) h.textures) s p true (told ((as_past size).look h) s 0x19 p)
  draw_19 n = rw (told_as_lem ((as_past size).look h) s 0x19 p command-of_19, painted-whole ((as_past size).look h) s (draw.Textured true) p n) (textured_draws true)

  -- ---- 1B: the model, and for each of its triangles the texture under that triangle's number
  pub draw_1b_none : length p ≡ 2 → find (word_at p 0) h.models ≡ none → told ((as_past size).look h) s 0x1b p ≡ tells (refused NotHeld 0) s []
  draw_1b_none n e = model_none ((as_past size).look h) s p n mode e

  pub draw_1b : (u : Whole) → length p ≡ 2 → find (word_at p 0) h.models ≡ some u
      → told ((as_past size).look h) s 0x1b p
      ≡ tells (records_verdict (word_at p 1) (λ k. is_some (find k h.textures)) s.matrices u.wide u.words) s
      (map paints.stroked (records_strokes s (word_at p 1) (λ k. find k h.textures) u.wide u.words))
  draw_1b u n e = model_exact ((as_past size).look h) s p n u mode e

-- ---- uploads
-- 17 and 1A that pass their checks are to be kept, and else nothing is
pub load_17 : (look : Look) (s : Settings) (p : List ℕ) → (told look s 0x17 p).load ≡ when_done (texture_verdict p) (some (texture_in p)) none
load_17 look s p = ap (λ (t : Told). t.load) (told_as_lem look s 0x17 p command-of_17)

pub load_1a : (look : Look) (s : Settings) (p : List ℕ) → (told look s 0x1a p).load ≡ when_done (count_verdict p) (some (model_in p)) none
load_1a look s p = ap (λ (t : Told). t.load) (told_as_lem look s 0x1a p command-of_1a)

-- a payload done with is no upload
cleared : (h : Past) (k : Kind) → history (past h.textures h.models []) k ≡ history h k
cleared h Texture = refl
cleared h Model = refl

-- one that passed its checks: bit 6, 64, exactly if by the rule there is no room, and else it is the newest of the history
pub upload-ruled : (size : Kind → ℕ) (c : Control Past) (l : Load) → (told ((as_past size).look c.box) c.settings c.opcode c.box.payload).load ≡ some l
    → ((execute (as_past size) c).control.notes.status ≡ cond (is_fits (ruled size c.box l)) (bit_or c.notes.status 0) (bit_or c.notes.status 64))
    × ((k : Kind) → history (execute (as_past size) c).control.box k ≡ cond (is_fits (ruled size c.box l)) (history (accepted c.box l.kind l.whole) k) (history c.box k))
unfolding execute
upload-ruled size c l e = rw e (go (ruled size c.box l))
  where
    go : (r : Result ⊤ NoRoom)
        → (bit_or c.notes.status (bits_of (room_verdict r)) ≡ cond (is_fits r) (bit_or c.notes.status 0) (bit_or c.notes.status 64))
        × ((k : Kind) → history ((as_past size).clear (cond (is_fits r) (accepted c.box l.kind l.whole) c.box)) k ≡ cond (is_fits r) (history (accepted c.box l.kind l.whole) k) (history c.box k))
    go (Ok u) = (refl, λ k. cleared (accepted c.box l.kind l.whole) k)
    go (Err NoSlot) = (refl, λ k. cleared c.box k)
    go (Err NoWords) = (refl, λ k. cleared c.box k)

-- and any other command leaves the history
pub others_keep : (size : Kind → ℕ) (c : Control Past) → (told ((as_past size).look c.box) c.settings c.opcode c.box.payload).load ≡ none
    → (k : Kind) → history (execute (as_past size) c).control.box k ≡ history c.box k
unfolding execute
others_keep size c e k = rw e (cleared c.box k)

-- no other command sets bit 6: if nothing is to be kept, a command sets at most a bit of value 8
abbrev Low : Verdict → Type 0
Low v = bits_of v ≤ 8

pub others-low : (size : Kind → ℕ) (c : Control Past) → (told ((as_past size).look c.box) c.settings c.opcode c.box.payload).load ≡ none
    → Lower c.notes.status (execute (as_past size) c).control.notes.status
unfolding execute
others-low size c e =
    let t : Told = told ((as_past size).look c.box) c.settings c.opcode c.box.payload in
    record {
      verdict = t.verdict;
      low = told_so Low (omega arith) (λ i. omega arith) (λ i. omega arith) (omega arith) (omega arith) (omega arith) (omega arith) ((as_past size).look c.box) c.settings c.opcode c.box.payload;
      is = rw e;
    }

-- the rule, spelt out: the number is new and 64 are held, or the other numbers' words plus the new ones exceed the store
pub room_says : (size : ℕ) (cs : List Card) (n new : ℕ) → is_fits (room size cs n new) ≡ not ((not (holds n cs) && leb 64 (length cs)) || ltb size (total (without n cs) + new))
room_says size cs n new = go (not (holds n cs) && leb 64 (length cs)) (ltb size (total (without n cs) + new))
  where
    go : (a b : Bool) → is_fits (cond {A = Result ⊤ NoRoom} a (Err NoSlot) (cond b (Err NoWords) (Ok _))) ≡ not (a || b)
    go true b = refl
    go false true = refl
    go false false = refl

-- the words that count, over a history: what was ever accepted under the number itself counts nothing
pub room-words : (n : ℕ) (h : List Whole) → total (without n (cards (live h))) ≡ total (cards (live (without n h)))
room-words n h = ap total (sym (cards-without n (live h)) ∙ ap cards (live-without n h))

-- Status: no command clears a bit, and a feed keeps all bits but 2, 3 and 6 as given: what changes is or-ed with a verdict's bit, word by word. Over any way of keeping uploads. Assumes nothing.
use Prim.Native.Nat.{ℕ, zero, suc, ◌/◌, ◌%◌, ◌^◌, ◌≤◌, max}
use Rattle.verdict.specs.Verdict.{Verdict, done, refused}
use Rattle.std.specs.Prelude.{Ok, Err}
use mathlib.Core.Path.{◌≡◌, refl, sym, ap, ◌∙◌}
use mathlib.Core.Bool.{Bool, true, false, cond}
use mathlib.Core.List.{List, [], ◌∷◌}
use native.Mathlib.Omega.{arith}
use native.Mathlib.Nat.{pow-succ', div-div-eq-div-mul, zero-div}
use lib.Bits.{bit_or, or_zero_r}
use lib.Dec.{eqb, ltb}
use lib.IntN.{ℤ}
use lib.Ieee.{Float}
use lib.ListN.{length}
use Rattle.laws.proofs.Bits.{bit, bit-bit_or}
use Rattle.verdict.specs.Verdict.{number_of, bit_for, bits_of}
use Rattle.verdict.specs.declared.Reason.{Reason}
use Rattle.verdict.specs.declared.Reason.TheVariants.{ZeroOpcode, CountTooLarge, UnknownOpcode, WrongLength, OutOfRange, NotFinite, NotHeld, NotInvertible, NoSlot, NoWords}
use Rattle.state.specs.declared.State.{State}
use Rattle.state.specs.State.{most_payload, well_formed}
use Rattle.execute.specs.Control.{Keep, Control, Step, Seen, execute}
use Rattle.execute.specs.Kept.{machine, as_box}
use Rattle.run.specs.Framing.{begun, dropped, header, taken, gather, still, word, word_on, run}
use Rattle.vpu.specs.Calls.{Outcome, lengths_ok, feed}
use Rattle.claims.specs.Status.{Stays, verdict_in}

-- ---- a status after another: what a verdict sets is all that changes
pub record Sets (before after : ℕ) : Type 0 where
  pub verdict : Verdict
  pub is : after ≡ bit_or before (bits_of verdict)

same : (s : ℕ) → Sets s s
same s = record { verdict = done; is = sym (or_zero_r s) }

either : {X : Type 0} (s : ℕ) (b : Bool) (x y : Step X) → Sets s x.control.notes.status → Sets s y.control.notes.status → Sets s (cond b x y).control.notes.status
either s true x y p q = p
either s false x y p q = q

module _ {X : Type 0} (K : Keep X) where
  execute_sets : (c : Control X) → Sets c.notes.status (execute K c).control.notes.status
  unfolding execute
  execute_sets c = record { verdict = verdict_in K c; is = refl }

  pub word_sets : (c : Control X) (w : ℕ) → Sets c.notes.status (word K c w).control.notes.status
  unfolding word header gather
  word_sets c w =
      either c.notes.status (eqb c.wanted 0) _ _
      (either c.notes.status (eqb (w / 16777216) 0) (dropped K c (w / 16777216) (refused ZeroOpcode 0)) _ (record { verdict = refused ZeroOpcode 0; is = refl })
      (either c.notes.status (ltb most_payload (w % 16777216)) (dropped K c (w / 16777216) (refused CountTooLarge 0)) _ (record { verdict = refused CountTooLarge 0; is = refl })
      (either c.notes.status (eqb (w % 16777216) 0) (execute K (begun K c (w / 16777216) 0)) (still K (begun K c (w / 16777216) (w % 16777216))) (execute_sets (begun K c (w / 16777216) 0)) (same c.notes.status))))
      (either c.notes.status (eqb c.wanted 1) (execute K (taken K c w)) (still K (taken K c w)) (execute_sets (taken K c w)) (same c.notes.status))

-- ---- the bits that verdicts have
bit_half : (k n : ℕ) → bit (suc k) n ≡ bit k (n / 2)
bit_half k n = ap (λ (d : ℕ). n / d % 2) (pow-succ' 2 k) ∙ ap (λ (q : ℕ). q % 2) (sym (div-div-eq-div-mul n 2 (2 ^ k)))

bit_none : (k : ℕ) → bit k 0 ≡ 0
bit_none k = ap (λ (q : ℕ). q % 2) (zero-div (2 ^ k))

-- bit k of 4, of 8 and of 64
two : (k : ℕ) → (k ≡ 2 → ⊥) → bit k 4 ≡ 0
two zero h = refl
two (suc zero) h = refl
two (suc (suc zero)) h = absurd (h refl)
two (suc (suc (suc k))) h = bit_half (suc (suc k)) 4 ∙ bit_half (suc k) 2 ∙ bit_half k 1 ∙ bit_none k

three : (k : ℕ) → (k ≡ 3 → ⊥) → bit k 8 ≡ 0
three zero h = refl
three (suc k) h = bit_half k 8 ∙ two k (λ e. h (ap suc e))

six : (k : ℕ) → (k ≡ 6 → ⊥) → bit k 64 ≡ 0
six zero h = refl
six (suc zero) h = refl
six (suc (suc zero)) h = refl
six (suc (suc (suc k))) h = bit_half (suc (suc k)) 64 ∙ bit_half (suc k) 32 ∙ bit_half k 16 ∙ three k (λ e. h (ap (λ (n : ℕ). suc (suc (suc n))) e))

module _ (k : ℕ) (a : k ≡ 2 → ⊥) (b : k ≡ 3 → ⊥) (c : k ≡ 6 → ⊥) where
  reason_bit : (r : Reason) → bit k (bit_for (number_of r)) ≡ 0
  reason_bit ZeroOpcode = two k a
  reason_bit CountTooLarge = three k b
  reason_bit UnknownOpcode = three k b
  reason_bit WrongLength = three k b
  reason_bit OutOfRange = three k b
  reason_bit NotFinite = three k b
  reason_bit NotHeld = three k b
  reason_bit NotInvertible = three k b
  reason_bit NoSlot = six k c
  reason_bit NoWords = six k c

  verdict_bit : (v : Verdict) → bit k (bits_of v) ≡ 0
  verdict_bit (Ok u) = bit_none k
  verdict_bit (Err e) = reason_bit e.reason

sets_stays : {s t : ℕ} → Sets s t → Stays s t
sets_stays {s} {t} e = record {
  kept = λ k h. ap (bit k) e.is ∙ bit-bit_or k s (bits_of e.verdict) ∙ rw h (top (bit k (bits_of e.verdict)) (half (bits_of e.verdict / 2 ^ k)));
  others = λ k a b c. ap (bit k) e.is ∙ bit-bit_or k s (bits_of e.verdict) ∙ rw (verdict_bit k a b c e.verdict) (low (bit k s));
}
  where
    half : (q : ℕ) → q % 2 ≤ 1
    half q = omega arith

    top : (x : ℕ) → x ≤ 1 → max 1 x ≡ 1
    top x h = omega arith

    low : (x : ℕ) → max x 0 ≡ x
    low x = omega arith

all_stay : (s : ℕ) → Stays s s
all_stay s = record { kept = λ k h. h; others = λ k a b c. refl }

then_stay : {r s t : ℕ} → Stays r s → Stays s t → Stays r t
then_stay x y = record { kept = λ k h. y.kept k (x.kept k h); others = λ k a b c. y.others k a b c ∙ x.others k a b c }

-- ---- for a command, for a word, and for a run of words
module _ {X : Type 0} (K : Keep X) where
  pub execute-stays : (c : Control X) → Stays c.notes.status (execute K c).control.notes.status
  execute-stays c = sets_stays (execute_sets K c)

  pub word-stays : (c : Control X) (w : ℕ) → Stays c.notes.status (word K c w).control.notes.status
  word-stays c w = sets_stays (word_sets K c w)

  pub run-stays : (ws : List ℕ) (m : Seen X) → Stays m.control.notes.status (run K m ws).control.notes.status
  unfolding run
  run-stays [] m = all_stay m.control.notes.status
  run-stays (w ∷ ws) m = then_stay (word-stays m.control w) (run-stays ws (word_on K m w))

-- ---- and of a feed, whatever it answers
pub feed-stays : (s : State) (ws : List ℕ) (P : List ℕ) (D : List ℤ) (F : List Float) (C T M : List ℕ) → Stays s.notes.status (feed s ws P D F C T M).machine.control.notes.status
unfolding feed
feed-stays s ws P D F C T M = go (lengths_ok (length P) (length D) (length F) (length C) (length T) (length M)) (well_formed s (length T) (length M))
  where
    go : (a b : Bool)
        → Stays s.notes.status
        (cond {A = Outcome} a (cond {A = Outcome} b (record { answer = 0; machine = run as_box (machine s P D F C T M) ws }) (record { answer = 2; machine = machine s P D F C T M })) (record { answer = 1; machine = machine s P D F C T M })).machine.control.notes.status
    go true true = run-stays as_box ws (machine s P D F C T M)
    go true false = all_stay s.notes.status
    go false b = all_stay s.notes.status

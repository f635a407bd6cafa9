-- The calls' outcomes as a host in C sees them, case by case; a refused call hands everything back as it was given. Assumes nothing.
use Prim.Native.Nat.{ℕ}
use mathlib.Core.Path.{◌≡◌, refl, sym, ap, ◌∙◌}
use mathlib.Core.Bool.{Bool, true, false}
use mathlib.Core.List.{List}
use lib.IntN.{ℤ}
use lib.ListN.{length}
use lib.Ieee.{Float}
use Rattle.state.specs.State.{well_formed}
use Rattle.state.specs.declared.State.{State}
use Rattle.execute.specs.Kept.{machine, state_of}
use Rattle.vpu.specs.Calls.{Outcome, outcome, number_of, lengths_ok, feed}
use Rattle.vpu.specs.declared.Fed.{Fed}
use Rattle.vpu.proofs.Laws.{feed_wrong, feed_malformed, feed-done}
use Rattle.plain.specs.Plain.{state_in, switches_ok}
use Rattle.vpu_c.specs.Calls.{Handed, handed, put_fed, put_out, feed_c}
use Rattle.vpu_c.specs.declared.VpuFed.{VpuFed}
use Rattle.plain.specs.declared.VpuState.{VpuState}
use Rattle.plain.proofs.Back.{in_out, out_ok, out_in}

-- ---- from what the machine's call answers and leaves to the host's
pub put_out_lem : (f : Fed) {r : VpuFed} {P : List ℕ} {D : List ℤ} {F : List Float} {C T M : List ℕ} {o : Outcome}
    → outcome (number_of f.answer) (machine f.state P D F C T M) ≡ o → r ≡ put_fed f → handed r.answer r.state P D F C T M ≡ put_out o
put_out_lem f e a = rw a (ap put_out e)

module _ (v : VpuState) (ws P : List ℕ) (D : List ℤ) (F : List Float) (C T M : List ℕ) where
  abbrev lengths : Bool
  lengths = lengths_ok (length P) (length D) (length F) (length C) (length T) (length M)

  -- ---- the cases of `feed_c`
  pub feed_c_wrong : lengths ≡ false → feed_c v ws P D F C T M ≡ handed 1 v P D F C T M
  unfolding feed_c
  feed_c_wrong e = rw e

  pub feed_c_switch : lengths ≡ true → switches_ok v ≡ false → feed_c v ws P D F C T M ≡ handed 2 v P D F C T M
  unfolding feed_c
  feed_c_switch e s = rw (e, s)

  feed_c_right : lengths ≡ true → switches_ok v ≡ true → feed_c v ws P D F C T M ≡ put_out (feed (state_in v) ws P D F C T M)
  unfolding feed_c
  feed_c_right e s = rw (e, s)

  -- with switches that are 0 or 1 the call is the machine's, whatever the lengths
  pub feed_c_in : switches_ok v ≡ true → feed_c v ws P D F C T M ≡ put_out (feed (state_in v) ws P D F C T M)
  feed_c_in s = go lengths refl
    where
      go : (b : Bool) → lengths ≡ b → feed_c v ws P D F C T M ≡ put_out (feed (state_in v) ws P D F C T M)
      go true e = feed_c_right e s
      go false e = rw (feed_c_wrong e, feed_wrong P D F C T M (state_in v) ws e, out_in v s)

  -- from the callees' answers to the export's
  pub fed : (f : Fed) {r : VpuFed} {t : State} {P' : List ℕ} {D' : List ℤ} {F' : List Float} {C' T' M' : List ℕ}
      → outcome (number_of f.answer) (machine f.state P' D' F' C' T' M') ≡ feed t ws P D F C T M → t ≡ state_in v → switches_ok v ≡ true → r ≡ put_fed f
      → handed r.answer r.state P' D' F' C' T' M' ≡ feed_c v ws P D F C T M
  fed f e t s a = rw t at (put_out_lem f e a) ∙ sym (feed_c_in s)

  -- ---- a malformed state
  pub feed_c_malformed : lengths ≡ true → switches_ok v ≡ true → well_formed (state_in v) (length T) (length M) ≡ false → feed_c v ws P D F C T M ≡ handed 2 v P D F C T M
  feed_c_malformed e s w = rw (feed_c_right e s, feed_malformed P D F C T M (state_in v) ws e w, out_in v s)

  -- ---- a call that is not answered 0 hands back everything as it was given, the bytes of the switches among it
  abbrev pub AsGiven : Type 0
  AsGiven = feed_c v ws P D F C T M ≡ handed (feed_c v ws P D F C T M).answer v P D F C T M

  pub refused_as_given : ((feed_c v ws P D F C T M).answer ≡ 0 → ⊥) → AsGiven
  refused_as_given r = by_lengths lengths refl
    where
      as_given : (n : ℕ) → feed_c v ws P D F C T M ≡ handed n v P D F C T M → AsGiven
      as_given n e = rw e

      by_form : lengths ≡ true → switches_ok v ≡ true → (b : Bool) → well_formed (state_in v) (length T) (length M) ≡ b → AsGiven
      by_form e s false w = as_given 2 (feed_c_malformed e s w)
      by_form e s true w = absurd (r (ap (λ (h : Handed). h.answer) (feed_c_right e s) ∙ ap (λ (o : Outcome). o.answer) (feed-done P D F C T M (state_in v) ws e w)))

      by_switch : lengths ≡ true → (b : Bool) → switches_ok v ≡ b → AsGiven
      by_switch e false s = as_given 2 (feed_c_switch e s)
      by_switch e true s = by_form e s (well_formed (state_in v) (length T) (length M)) refl

      by_lengths : (b : Bool) → lengths ≡ b → AsGiven
      by_lengths false e = as_given 1 (feed_c_wrong e)
      by_lengths true e = by_switch e (switches_ok v) refl

-- ---- a state that a call gave back may be handed on: its switches are 0 or 1, and taken in again it is the machine's own
module _ (o : Outcome) where
  pub handed-ok : switches_ok (put_out o).state ≡ true
  handed-ok = out_ok (state_of o.machine)

  pub handed-on : state_in (put_out o).state ≡ state_of o.machine
  handed-on = in_out (state_of o.machine)

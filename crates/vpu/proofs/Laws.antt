-- Laws of the calls' definitions that the proofs cite: the lent lengths, and what each call comes to. Assumes nothing.
use Prim.Native.Nat.{ℕ}
use mathlib.Core.Path.{◌≡◌}
use mathlib.Core.Bool.{true, false, and-eq-true_iff}
use mathlib.Core.List.{List}
use borrow.Author.Tests.{eqb-true, leb-true}
use lib.IntN.{ℤ}
use lib.Ieee.{Float}
use lib.ListN.{length}
use Rattle.settings.specs.Settings.{settings_ok}
use Rattle.state.specs.State.{well_formed, fresh}
use Rattle.state.specs.declared.State.{State}
use Rattle.execute.specs.Kept.{machine, as_box}
use Rattle.run.specs.Framing.{run}
use Rattle.run.specs.Sound.{Sound}
use Rattle.vpu.specs.Calls.{outcome, Lengths, lengths_ok, feed, cleared, reset}

-- ---- the lent lengths
pub lengths : (p d f c t m : ℕ) → lengths_ok p d f c t m ≡ true → Lengths p d f c t m
unfolding lengths_ok
lengths p d f c t m e =
    let a = (and-eq-true_iff _ _).0 e in
    let b = (and-eq-true_iff _ _).0 a.1 in
    let g = (and-eq-true_iff _ _).0 b.1 in
    let h = (and-eq-true_iff _ _).0 g.1 in
    let i = (and-eq-true_iff _ _).0 h.1 in
    record {
      of-plane = eqb-true _ _ a.0;
      of-depth = eqb-true _ _ b.0;
      of_floats = eqb-true _ _ g.0;
      of-command = eqb-true _ _ h.0;
      of-textures = leb-true _ _ i.0;
      of-models = leb-true _ _ i.1;
    }

-- words may be run on what passes both tests of a call
pub sound : (s : State) (p d f c t m : ℕ) → lengths_ok p d f c t m ≡ true → well_formed s t m ≡ true → Sound s p d f c t m
unfolding well_formed
sound s p d f c t m e w =
    let l = lengths p d f c t m e in
    let a = (and-eq-true_iff (settings_ok s.settings) _).0 w in
    let b = (and-eq-true_iff _ _).0 a.1 in
    let g = (and-eq-true_iff _ _).0 b.1 in
    record {
      of-plane = l.of-plane;
      of-depth = l.of-depth;
      of_floats = l.of_floats;
      of-command = l.of-command;
      begun = b.0;
      of-textures = record { ok = g.0; few = l.of-textures };
      of-models = record { ok = g.1; few = l.of-models };
    }

-- ---- the calls' outcomes
module _ (P : List ℕ) (D : List ℤ) (F : List Float) (C T M : List ℕ) where
  pub reset_wrong : lengths_ok (length P) (length D) (length F) (length C) (length T) (length M) ≡ false → reset P D F C T M ≡ outcome 1 (machine fresh P D F C T M)
  unfolding reset
  reset_wrong e = rw e

  pub reset-done : lengths_ok (length P) (length D) (length F) (length C) (length T) (length M) ≡ true → reset P D F C T M ≡ outcome 0 (cleared P D F C T M)
  unfolding reset
  reset-done e = rw e

  module _ (s : State) (ws : List ℕ) where
    pub feed_wrong : lengths_ok (length P) (length D) (length F) (length C) (length T) (length M) ≡ false → feed s ws P D F C T M ≡ outcome 1 (machine s P D F C T M)
    unfolding feed
    feed_wrong e = rw e

    module _ (e : lengths_ok (length P) (length D) (length F) (length C) (length T) (length M) ≡ true) where
      pub feed_malformed : well_formed s (length T) (length M) ≡ false → feed s ws P D F C T M ≡ outcome 2 (machine s P D F C T M)
      unfolding feed
      feed_malformed f = rw (e, f)

      pub feed-done : well_formed s (length T) (length M) ≡ true → feed s ws P D F C T M ≡ outcome 0 (run as_box (machine s P D F C T M) ws)
      unfolding feed
      feed-done f = rw (e, f)

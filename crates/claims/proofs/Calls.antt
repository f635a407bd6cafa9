-- Demand 1, collected: each answer exactly in its case, 1 before 2, and what a refusal leaves. Each is a way through the calls' definitions. Assumes nothing.
use Prim.Native.Nat.{ℕ}
use mathlib.Core.Path.{◌≡◌, refl}
use mathlib.Core.Bool.{Bool, true, false}
use mathlib.Core.List.{List}
use native.Mathlib.Omega.{arith}
use borrow.Author.Tests.{eqb-true, eqb-false, le-leb}
use lib.Dec.{eqb}
use lib.IntN.{ℤ}
use lib.Ieee.{Float}
use lib.ListN.{length}
use Rattle.screen.specs.Plane.{plane_bytes, pixel_of}
use Rattle.screen.proofs.Pixels.{wrong_length_lem, beyond_right, below_bottom, on_screen}
use Rattle.store.specs.Uploads.{most_words}
use Rattle.state.specs.State.{well_formed}
use Rattle.state.specs.declared.State.{State}
use Rattle.vpu.specs.Calls.{lengths_ok, feed, reset}
use Rattle.claims.specs.Calls.{Right, Fed, Reset, Pixel}
use Rattle.vpu.proofs.Laws.{lengths, reset_wrong, reset-done, feed_wrong, feed_malformed, feed-done}

-- two answers are two
zero_one : {n : ℕ} → n ≡ 0 → n ≡ 1 → ⊥
zero_one a b = omega arith

zero-two : {n : ℕ} → n ≡ 0 → n ≡ 2 → ⊥
zero-two a b = omega arith

one-two : {n : ℕ} → n ≡ 1 → n ≡ 2 → ⊥
one-two a b = omega arith

true_false : {b : Bool} → b ≡ true → b ≡ false → ⊥
true_false p q = let z : ◌≡◌ {A = ℕ} 0 1 = cc in omega arith

module _ (P : List ℕ) (D : List ℤ) (F : List Float) (C T M : List ℕ) where
  pub right_measured : Right P D F C T M → lengths_ok (length P) (length D) (length F) (length C) (length T) (length M) ≡ true
  unfolding lengths_ok
  right_measured h = rw (h.of-plane, h.of-depth, h.of_floats, h.of-command, le-leb (length T) most_words h.of-textures, le-leb (length M) most_words h.of-models)

  measured_right : lengths_ok (length P) (length D) (length F) (length C) (length T) (length M) ≡ true → Right P D F C T M
  measured_right e = lengths (length P) (length D) (length F) (length C) (length T) (length M) e

  -- ---- feed
  pub feed_answers : (s : State) (ws : List ℕ) → Fed P D F C T M s ws (feed s ws P D F C T M)
  feed_answers s ws = go (lengths_ok (length P) (length D) (length F) (length C) (length T) (length M)) refl (well_formed s (length T) (length M)) refl
    where
      go : (a : Bool) → lengths_ok (length P) (length D) (length F) (length C) (length T) (length M) ≡ a → (b : Bool) → well_formed s (length T) (length M) ≡ b → Fed P D F C T M s ws (feed s ws P D F C T M)
      go false e b f =
          rw (feed_wrong P D F C T M s ws e)
          (record {
            one = λ x h. true_false (right_measured h) e;
            one_if = λ h. refl;
            two = λ x. absurd (one-two refl x);
            two_if = λ h x. absurd (true_false (right_measured h) e);
            zero = λ x. absurd (zero_one x refl);
            zero_if = λ h x. absurd (true_false (right_measured h) e);
            done = λ x. absurd (zero_one x refl);
            refused = λ x. refl;
            known = omega arith;
          })
      go true e false f =
          rw (feed_malformed P D F C T M s ws e f)
          (record {
            one = λ x. absurd (one-two x refl);
            one_if = λ h. absurd (h (measured_right e));
            two = λ x. (measured_right e, f);
            two_if = λ h x. refl;
            zero = λ x. absurd (zero-two x refl);
            zero_if = λ h x. absurd (true_false x f);
            done = λ x. absurd (zero-two x refl);
            refused = λ x. refl;
            known = omega arith;
          })
      go true e true f =
          rw (feed-done P D F C T M s ws e f)
          (record {
            one = λ x. absurd (zero_one refl x);
            one_if = λ h. absurd (h (measured_right e));
            two = λ x. absurd (zero-two refl x);
            two_if = λ h x. absurd (true_false f x);
            zero = λ x. (measured_right e, f);
            zero_if = λ h x. refl;
            done = λ x. refl;
            refused = λ x. absurd (x refl);
            known = omega arith;
          })

  -- ---- reset
  pub reset_answers : Reset P D F C T M (reset P D F C T M)
  reset_answers = go (lengths_ok (length P) (length D) (length F) (length C) (length T) (length M)) refl
    where
      go : (a : Bool) → lengths_ok (length P) (length D) (length F) (length C) (length T) (length M) ≡ a → Reset P D F C T M (reset P D F C T M)
      go false e =
          rw (reset_wrong P D F C T M e)
          (record {
            one = λ x h. true_false (right_measured h) e;
            one_if = λ h. refl;
            zero = λ x. absurd (zero_one x refl);
            zero_if = λ h. absurd (true_false (right_measured h) e);
            done = λ x. absurd (zero_one x refl);
            refused = λ x. refl;
            known = omega arith;
          })
      go true e =
          rw (reset-done P D F C T M e)
          (record {
            one = λ x. absurd (zero_one refl x);
            one_if = λ h. absurd (h (measured_right e));
            zero = λ x. measured_right e;
            zero_if = λ h. refl;
            done = λ x. refl;
            refused = λ x. absurd (x refl);
            known = omega arith;
          })

-- ---- pixel
pub pixel_answers : (P : List ℕ) (x y : ℕ) → Pixel P x y (pixel_of P x y)
unfolding pixel_of
pixel_answers P x y = go (eqb (length P) plane_bytes) refl
  where
    go : (b : Bool) → eqb (length P) plane_bytes ≡ b → Pixel P x y (pixel_of P x y)
    go true e =
        let h : length P ≡ plane_bytes = eqb-true (length P) plane_bytes e in
        let n : (pixel_of P x y).number ≡ 0 = rw e in
        record {
          one = λ z. absurd (zero_one n z);
          one_if = λ f. absurd (f h);
          zero = λ z. h;
          zero_if = λ z. n;
          right_of = λ z w. beyond_right P x y z w;
          below = λ z w. below_bottom P x y z w;
          on = λ z v w. on_screen P x y z v w;
          known = omega arith;
        }
    go false e =
        let f : length P ≡ plane_bytes → ⊥ = eqb-false (length P) plane_bytes e in
        let n : (pixel_of P x y).number ≡ 1 = rw e in
        record {
          one = λ z. f;
          one_if = λ z. wrong_length_lem P x y z;
          zero = λ z. absurd (zero_one z n);
          zero_if = λ h. absurd (f h);
          right_of = λ h. absurd (f h);
          below = λ h. absurd (f h);
          on = λ h. absurd (f h);
          known = omega arith;
        }

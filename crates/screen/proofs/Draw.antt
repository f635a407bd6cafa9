-- The laws of drawing over two buffers: nothing shows, one pixel shows, one run after another, the whole screen. Assumes nothing.
use mathlib.Core.Path.{◌≡◌, sym, ap, ◌∙◌}
use mathlib.Core.Bool.{Bool, true, false}
use mathlib.Core.List.{List}
use Prim.Native.Nat.{ℕ, ◌+◌, ◌*◌, ◌/◌, ◌<◌, ◌≤◌}
use native.Mathlib.Omega.{arith}
use lib.ListN.{length, get_or, set}
use Rattle.laws.specs.Cells.{map_at, map_range}
use Rattle.screen.specs.Draw.{depth_step, byte_step, Drawn}
use Rattle.laws.proofs.Cells.{set_range, range_skip, range_swap, range_next, range_end, range_all, get_d_over}

module _ {Z : Type 0} (z : Z) (near : ℕ → Z → Bool) (new : ℕ → Z) (ink : ℕ → ℕ → ℕ) where
  -- nothing shows from lo to hi
  pub drawn-none : (lo hi : ℕ) (D : List Z) (P : List ℕ) → ((k : ℕ) → lo ≤ k → k < hi → near k (get_or D k z) ≡ false)
      → Drawn z near new ink lo hi D P D P
  unfolding depth_step byte_step
  drawn-none lo hi D P h =
      record {
        depth_is = range_skip z (depth_step near new) lo hi D (λ k p q. rw (h k p q));
        plane-is = range_skip 0 (byte_step z near ink D) (lo * 4) (hi * 4) P (λ j p q. rw (h (j / 4) (omega arith) (omega arith)));
      }

  -- the pixel k shows
  pub drawn-one : (k : ℕ) (D : List Z) (P P' : List ℕ) (d : Z) → near k (get_or D k z) ≡ true → new k ≡ d → k < length D
      → P' ≡ map_range ink (k * 4) (k * 4 + 4) P → Drawn z near new ink k (k + 1) D P (set D k d) P'
  unfolding depth_step byte_step
  drawn-one k D P P' d h e l w =
      record {
        depth_is = set_range z (depth_step near new) k d D l (rw (h, e));
        plane-is =
            range_end (byte_step z near ink D) (k * 4) (k * 4 + 4) ((k + 1) * 4) P P'
            (w ∙ range_swap 0 ink (byte_step z near ink D) (k * 4) (k * 4 + 4) P (λ j p q. let i : j / 4 ≡ k = omega arith in sym (rw (i, h))))
            (omega arith);
      }

-- a run after the one below it: a turn of a loop over pixels, or of one over rows
pub drawn_next : {Z : Type 0} {z : Z} {near : ℕ → Z → Bool} {new : ℕ → Z} {ink : ℕ → ℕ → ℕ} {lo mid mid' hi' hi : ℕ} {D₀ D₁ D₂ : List Z} {P₀ P₁ P₂ : List ℕ}
    → Drawn z near new ink lo mid D₀ P₀ D₁ P₁ → Drawn z near new ink mid' hi' D₁ P₁ D₂ P₂
    → mid' ≡ mid → hi' ≡ hi → lo ≤ mid → mid ≤ hi → hi ≤ length D₀ → Drawn z near new ink lo hi D₀ P₀ D₂ P₂
unfolding byte_step
drawn_next {z} {near} {new} {ink} {lo} {mid} {mid'} {hi'} {hi} {D₀} {D₁} {D₂} {P₀} {P₁} {P₂} a b em eh p q r =
    record {
      depth_is = range_next z (depth_step near new) lo mid mid' hi' hi D₀ D₁ D₂ a.depth_is b.depth_is em eh p q;
      plane-is =
          range_next 0 (byte_step z near ink D₀) (lo * 4) (mid * 4) (mid' * 4) (hi' * 4) (hi * 4) P₀ P₁ P₂ a.plane-is
          (b.plane-is ∙ range_swap 0 (byte_step z near ink D₁) (byte_step z near ink D₀) (mid' * 4) (hi' * 4) P₁ (λ j l u. rw (same j l u)))
          (ap (λ (n : ℕ). n * 4) em) (ap (λ (n : ℕ). n * 4) eh) (omega arith) (omega arith);
    }
  where
    same : (j : ℕ) → mid' * 4 ≤ j → j < hi' * 4 → get_or D₁ (j / 4) z ≡ get_or D₀ (j / 4) z
    same j l u = rw a.depth_is (get_d_over (depth_step near new) lo mid D₀ (j / 4) z (omega arith) (omega arith))

-- the same drawing, said in other words
pub drawn_swap : {Z : Type 0} {z : Z} {near near' : ℕ → Z → Bool} {new new' : ℕ → Z} {ink : ℕ → ℕ → ℕ} {lo hi : ℕ} {D D' : List Z} {P P' : List ℕ}
    → ((k : ℕ) (old : Z) → near k old ≡ near' k old) → ((k : ℕ) → new k ≡ new' k)
    → Drawn z near new ink lo hi D P D' P' → Drawn z near' new' ink lo hi D P D' P'
unfolding depth_step byte_step
drawn_swap {z} {near} {near'} {new} {new'} {ink} {lo} {hi} {D} {D'} {P} {P'} e f a =
    record {
      depth_is = a.depth_is ∙ range_swap z (depth_step near new) (depth_step near' new') lo hi D (λ k p q. rw (e k (get_or D k z), f k));
      plane-is = a.plane-is ∙ range_swap 0 (byte_step z near ink D) (byte_step z near' ink D) (lo * 4) (hi * 4) P (λ j p q. rw (e (j / 4) (get_or D (j / 4) z)));
    }

-- the whole screen
pub drawn-all : {Z : Type 0} {z : Z} {near : ℕ → Z → Bool} {new : ℕ → Z} {ink : ℕ → ℕ → ℕ} {n : ℕ} {D D' : List Z} {P P' : List ℕ}
    → Drawn z near new ink 0 n D P D' P' → length D ≤ n → length P ≤ n * 4
    → (D' ≡ map_at (depth_step near new) D) × (P' ≡ map_at (byte_step z near ink D) P)
drawn-all {z} {near} {new} {ink} {n} {D} {D'} {P} {P'} h ld lp =
    (h.depth_is ∙ range_all z (depth_step near new) n D ld, h.plane-is ∙ range_all 0 (byte_step z near ink D) (n * 4) P lp)

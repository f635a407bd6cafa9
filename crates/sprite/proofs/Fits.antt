-- `fit_verdict` by its checks: each refusal with those before it passed; and what a sprite that is not refused has. Assumes nothing.
use mathlib.Core.Path.{◌≡◌, refl}
use mathlib.Core.Bool.{Bool, true, false, cond}
use mathlib.Core.List.{List, [], ◌∷◌}
use Prim.Native.Nat.{ℕ, ◌+◌, ◌*◌, ◌/◌, ◌≤◌}
use native.Mathlib.Nat.{mul-le-mul_left}
use native.Mathlib.Omega.{arith}
use borrow.Author.Tests.{leb-true, eq-eqb, ne_eqb}
use lib.Dec.{eqb, leb}
use lib.ListN.{get_or}
use Rattle.verdict.specs.declared.Reason.{Reason}
use Rattle.verdict.specs.Verdict.{Verdict, done, refused}
use Rattle.verdict.specs.declared.Reason.TheVariants.{OutOfRange}
use Rattle.flat.specs.Words.{signed_at, in_reach, first_out}
use Rattle.flat.proofs.Placed.{first_in}
use Rattle.sprite.specs.Words.{sprite_of, fit_verdict}
use Rattle.sprite.specs.Spans.{Placed}

module _ (p : List ℕ) (w h : ℕ) where
  pub no_width : get_or p 3 0 ≡ 0 → fit_verdict p w h ≡ refused OutOfRange 3
  unfolding fit_verdict
  no_width a = rw (eq-eqb (get_or p 3 0) 0 a)

  module _ (a : get_or p 3 0 ≡ 0 → ⊥) where
    pub no_height : get_or p 4 0 ≡ 0 → fit_verdict p w h ≡ refused OutOfRange 4
    unfolding fit_verdict
    no_height b = rw (ne_eqb (get_or p 3 0) 0 a, eq-eqb (get_or p 4 0) 0 b)

    module _ (b : get_or p 4 0 ≡ 0 → ⊥) where
      pub sideways : leb (get_or p 1 0 + get_or p 3 0) w ≡ false → fit_verdict p w h ≡ refused OutOfRange 3
      unfolding fit_verdict
      sideways c = rw (ne_eqb (get_or p 3 0) 0 a, ne_eqb (get_or p 4 0) 0 b, c)

      module _ (c : leb (get_or p 1 0 + get_or p 3 0) w ≡ true) where
        pub downwards : leb (get_or p 2 0 + get_or p 4 0) h ≡ false → fit_verdict p w h ≡ refused OutOfRange 4
        unfolding fit_verdict
        downwards d = rw (ne_eqb (get_or p 3 0) 0 a, ne_eqb (get_or p 4 0) 0 b, c, d)

        pub targets : leb (get_or p 2 0 + get_or p 4 0) h ≡ true → fit_verdict p w h ≡ first_out p (5 ∷ 6 ∷ [])
        unfolding fit_verdict
        targets d = rw (ne_eqb (get_or p 3 0) 0 a, ne_eqb (get_or p 4 0) 0 b, c, d)

-- the target
module _ (p : List ℕ) where
  pub target_x : in_reach (signed_at p 5) ≡ false → first_out p (5 ∷ 6 ∷ []) ≡ refused OutOfRange 5
  target_x e = rw e

  pub target_y : in_reach (signed_at p 5) ≡ true → in_reach (signed_at p 6) ≡ false → first_out p (5 ∷ 6 ∷ []) ≡ refused OutOfRange 6
  target_y d e = rw (d, e)

  pub target_in : in_reach (signed_at p 5) ≡ true → in_reach (signed_at p 6) ≡ true → first_out p (5 ∷ 6 ∷ []) ≡ done
  target_in d e = rw (d, e)

-- ---- what a passed check says
past : (t : Bool) (r : Reason) (i : ℕ) (v : Verdict) → cond t (refused r i) v ≡ done → v ≡ done
past true r i v e = cc
past false r i v e = e

met : (t : Bool) (r : Reason) (i : ℕ) (v : Verdict) → cond t v (refused r i) ≡ done → (t ≡ true) × (v ≡ done)
met true r i v e = (refl, e)
met false r i v e = absurd cc

-- in a texture of at most 1024 by 1024, in n words
pub done-placed : (p : List ℕ) (w h n : ℕ) → w ≤ 1024 → h ≤ 1024 → n ≡ (w * h + 1) / 2 → fit_verdict p w h ≡ done → Placed (sprite_of p w) n
unfolding fit_verdict sprite_of
done-placed p w h n tw th en e =
    let across = met (leb (get_or p 1 0 + get_or p 3 0) w) OutOfRange 3 _ (past (eqb (get_or p 4 0) 0) OutOfRange 4 _ (past (eqb (get_or p 3 0) 0) OutOfRange 3 _ e)) in
    let down = met (leb (get_or p 2 0 + get_or p 4 0) h) OutOfRange 4 _ across.1 in
    let (x, rest) = first_in p 5 (6 ∷ []) down.1 in
    let (y, none) = first_in p 6 [] rest in
    let tall : get_or p 2 0 + get_or p 4 0 ≤ h = leb-true (get_or p 2 0 + get_or p 4 0) h down.0 in
    record {
      in_x = x;
      in_y = y;
      in_width = leb-true (get_or p 1 0 + get_or p 3 0) w across.0;
      in_words = omega (arith, mul-le-mul_left {m = get_or p 2 0 + get_or p 4 0} {n = h} w tall);
      top_width = tw;
      top_height = omega arith;
    }

-- A command that is not refused has a triangle that may be drawn. Assumes nothing.
use mathlib.Core.Path.{◌≡◌, refl}
use mathlib.Core.Bool.{Bool, true, false, cond}
use mathlib.Core.List.{List, [], ◌∷◌}
use Prim.Native.Nat.{ℕ}
use borrow.Author.Tests.{leb-true}
use lib.IntN.{nat_abs}
use lib.ListN.{get_or}
use mir.Syntax.{w32}
use mir.Val.{Fits}
use mir.ValLaws.{to_z-Fits}
use Rattle.laws.specs.Within.{Within}
use Rattle.verdict.specs.declared.Reason.TheVariants.{OutOfRange}
use Rattle.verdict.specs.Verdict.{done, refused}
use Rattle.flat.specs.Edge.{reach}
use Rattle.flat.specs.Tri.{Placed}
use Rattle.flat.specs.Words.{signed_at, in_reach, first_out, flat_verdict, tri_of}

-- if a list is not refused, its first word is in reach and the rest is not refused
pub first_in : (p : List ℕ) (k : ℕ) (ks : List ℕ) → first_out p (k ∷ ks) ≡ done → Within reach (signed_at p k) × (first_out p ks ≡ done)
unfolding in_reach
first_in p k ks e = go (in_reach (signed_at p k)) refl e
  where
    go : (b : Bool) → in_reach (signed_at p k) ≡ b → cond b (first_out p ks) (refused OutOfRange k) ≡ done → Within reach (signed_at p k) × (first_out p ks ≡ done)
    go true h e = (record { within = leb-true (nat_abs (signed_at p k)) reach h }, e)
    go false h e = absurd cc

pub done-placed : (p : List ℕ) → ((k : ℕ) → Fits w32 (get_or p k 0)) → flat_verdict p ≡ done → Placed (tri_of p)
unfolding flat_verdict tri_of
done-placed p f e =
    let (x0, e1) = first_in p 0 (1 ∷ 3 ∷ 4 ∷ 6 ∷ 7 ∷ []) e in
    let (y0, e3) = first_in p 1 (3 ∷ 4 ∷ 6 ∷ 7 ∷ []) e1 in
    let (x1, e4) = first_in p 3 (4 ∷ 6 ∷ 7 ∷ []) e3 in
    let (y1, e6) = first_in p 4 (6 ∷ 7 ∷ []) e4 in
    let (x2, e7) = first_in p 6 (7 ∷ []) e6 in
    let (y2, none) = first_in p 7 [] e7 in
    record {
      in_x0 = x0;
      in_y0 = y0;
      in_x1 = x1;
      in_y1 = y1;
      in_x2 = x2;
      in_y2 = y2;
      in_z0 = to_z-Fits w32 (get_or p 2 0) (f 2);
      in_z1 = to_z-Fits w32 (get_or p 5 0) (f 5);
      in_z2 = to_z-Fits w32 (get_or p 8 0) (f 8);
    }

-- Command 12: what its eleven words say, whether they are refused, and what they leave. Assumes nothing.
use Rattle.std.specs.Prelude.{Bool, cond, List, [], ◌∷◌, ℕ, ◌+◌, ◌*◌, ◌/◌, ◌%◌, min, leb, ℤ, nat_abs, get_or}
use Rattle.std.specs.Int.{w32}
use Rattle.std.proofs.Common.{to_z}
use Rattle.verdict.specs.Verdict.{Verdict, done, refused, when_done}
use Rattle.verdict.specs.declared.Reason.TheVariants.{OutOfRange}
use Rattle.flat.specs.declared.tri.Corner.{Corner}
use Rattle.flat.specs.declared.tri.Tri.{Tri}
use Rattle.flat.specs.Edge.{reach}
use Rattle.flat.specs.Tri.{tri_depths, tri_plane}

-- `p[k] as i32`
abbrev pub signed_at : List ℕ → ℕ → ℤ
signed_at p k = to_z w32 (get_or p k 0)

-- rule 4.6
unfoldable pub shaded_of : ℕ → ℕ → ℕ
shaded_of c shade = c * min shade 255 / 255

-- rule 4.1: the corner whose three words begin at k
abbrev pub corner_at : List ℕ → ℕ → Corner
corner_at p k = record { x = signed_at p k; y = signed_at p (k + 1); z = signed_at p (k + 2) }

-- rules 4.1 and 4.6: x, y and depth of each corner; the colour, whose top byte is not used; the shade
unfoldable pub tri_of : List ℕ → Tri
tri_of p =
    let rgb : ℕ = get_or p 9 0 in
    let shade : ℕ = get_or p 10 0 in
    record {
      p0 = corner_at p 0;
      p1 = corner_at p 3;
      p2 = corner_at p 6;
      color = record { r = shaded_of (rgb / 65536 % 256) shade; g = shaded_of (rgb / 256 % 256) shade; b = shaded_of (rgb % 256) shade; a = 255 };
    }

-- rule 4.2
unfoldable pub in_reach : ℤ → Bool
in_reach a = leb (nat_abs a) reach

-- the first of these words that is out of reach, if one is
abbrev pub first_out : List ℕ → List ℕ → Verdict
first_out p [] = done
first_out p (k ∷ ks) = cond (in_reach (signed_at p k)) (first_out p ks) (refused OutOfRange k)

-- the coordinates, in payload order
unfoldable pub flat_verdict : List ℕ → Verdict
flat_verdict p = first_out p (0 ∷ 1 ∷ 3 ∷ 4 ∷ 6 ∷ 7 ∷ [])

unfoldable pub flat_depths : List ℕ → List ℤ → List ℤ
flat_depths p D = when_done (flat_verdict p) (tri_depths (tri_of p) D) D

unfoldable pub flat_plane : List ℕ → List ℤ → List ℕ → List ℕ
flat_plane p D P = when_done (flat_verdict p) (tri_plane (tri_of p) D P) P

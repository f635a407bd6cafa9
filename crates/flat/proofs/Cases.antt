-- Rules 9.6 to 9.10, of the command's own definitions over its words; and what it leaves at each place. Assumes nothing.
use mathlib.Core.Path.{◌≡◌, refl, sym, ap, ◌∙◌}
use mathlib.Core.Bool.{Bool, true, false, cond, and-false}
use mathlib.Core.List.{List, [], ◌∷◌}
use Prim.Native.Nat.{ℕ, zero, suc, ◌+◌, ◌*◌, ◌/◌, ◌%◌, ◌<◌, ◌≤◌}
use native.Mathlib.Nat.{zero-add, suc-add}
use native.Mathlib.Omega.{arith}
use borrow.Author.Tests.{lt-ltb}
use lib.IntN.{ℤ, pos, negsuc, ◌+ℤ◌, ◌*ℤ◌}
use lib.ListN.{length, get_or, set, get_or-replicate, length-replicate}
use lib.Signed.{lt_z, quot_z}
use Rattle.laws.proofs.Cells.{get_or-map_at, map-none}
use Rattle.laws.proofs.Ring.{ring, var, add, mul}
use Rattle.screen.specs.Plane.{width, plane_bytes, paint}
use Rattle.screen.specs.Draw.{pixels, depth_step, byte_step}
use Rattle.screen.specs.Depths.{far_ints}
use Rattle.verdict.specs.declared.Reason.TheVariants.{OutOfRange}
use Rattle.verdict.specs.Verdict.{done, refused, bits_of}
use Rattle.flat.specs.declared.tri.Tri.{Tri}
use Rattle.flat.specs.Edge.{edge_of, agrees_of, has_area, inside_of, weighted_of}
use Rattle.flat.specs.Tri.{area_of, weight0, weight1, weight2, covers, depth_at, shows, depth_of, tri_depths, tri_plane}
use Rattle.flat.specs.Words.{shaded_of, in_reach, tri_of, flat_verdict, flat_depths, flat_plane}
use Rattle.flat.proofs.Fits.{weights_sum}
use Rattle.flat.proofs.Side.{below_it}

-- ---- what a command that is done leaves at each place
module _ (p : List ℕ) (D : List ℤ) (is-done : flat_verdict p ≡ done) where
  pub depth-after : (k : ℕ) → k < length D
      → get_or (flat_depths p D) k (pos 0) ≡ cond (shows (tri_of p) k (get_or D k (pos 0))) (depth_of (tri_of p) k) (get_or D k (pos 0))
  unfolding flat_depths tri_depths depth_step
  depth-after k h = rw is-done (get_or-map_at (depth_step (shows (tri_of p)) (depth_of (tri_of p))) D k (pos 0) h)

-- ---- after reset
abbrev far : ℤ
far = pos 2147483647

depth-fresh : (p : List ℕ) (D : List ℤ) → D ≡ far_ints pixels → flat_verdict p ≡ done → (k : ℕ) → k < pixels
    → get_or (flat_depths p D) k (pos 0) ≡ cond (shows (tri_of p) k far) (depth_of (tri_of p) k) far
depth-fresh p D e passes k h =
    let l : length D ≡ pixels = ap length e ∙ length-replicate pixels far in
    let o : get_or D k (pos 0) ≡ far = ap (λ (xs : List ℤ). get_or xs k (pos 0)) e ∙ get_or-replicate pixels k far (pos 0) h in
    depth-after p D passes k (omega arith) ∙ ap (λ (z : ℤ). cond (shows (tri_of p) k z) (depth_of (tri_of p) k) z) o

-- the words of a white triangle on (0,0), (4,0), (0,4) with these depths
abbrev pub corner : ℕ → ℕ → ℕ → List ℕ
corner z0 z1 z2 = 0 ∷ 0 ∷ z0 ∷ 4 ∷ 0 ∷ z1 ∷ 0 ∷ 4 ∷ z2 ∷ 0xff_ffff ∷ 255 ∷ []

corner-done : (z0 z1 z2 : ℕ) → flat_verdict (corner z0 z1 z2) ≡ done
unfolding flat_verdict in_reach
corner-done z0 z1 z2 = refl

-- how many of the first n pixels it shows at, if nothing was drawn before
pub count : Tri → ℕ → ℕ
count t zero = 0
count t (suc k) = cond (shows t k far) 1 0 + count t k

-- ---- rule 9.6
abbrev pub six : List ℕ
six = corner 10 10 10

below_eight : (k : ℕ) → 8 * width ≤ k → shows (tri_of six) k far ≡ false
unfolding shows tri_of
below_eight k h =
    let row : 8 ≤ k / width = omega arith in
    rw (below_it (tri_of six) (k % width) (k / width) (record { first = past 0 (omega arith); second = past 0 (omega arith); third = past 4 (omega arith) }))
  where
    past : (n : ℕ) → n < k / width → lt_z (pos n) (pos (k / width)) ≡ true
    past n h = lt-ltb n (k / width) h

skip : (n : ℕ) → 8 * width ≤ n → count (tri_of six) (suc n) ≡ count (tri_of six) n
unfolding count
skip n h = ap (λ (b : Bool). cond b 1 0 + count (tri_of six) n) (below_eight n h) ∙ zero-add (count (tri_of six) n)

more : (k : ℕ) → count (tri_of six) (k + 8 * width) ≡ count (tri_of six) (8 * width)
more zero = ap (count (tri_of six)) (zero-add (8 * width))
more (suc k) = ap (count (tri_of six)) (suc-add k (8 * width)) ∙ skip (k + 8 * width) (omega arith) ∙ more k

eight_rows : count (tri_of six) (8 * width) ≡ 15
unfolding count tri_of shows covers depth_at area_of weight0 weight1 weight2 edge_of inside_of has_area agrees_of weighted_of
eight_rows = refl

pub case_6 : (D : List ℤ) → D ≡ far_ints pixels
    → (count (tri_of six) pixels ≡ 15)
    × (get_or (flat_depths six D) (2 * width + 2) (pos 0) ≡ pos 10)
    × (get_or (flat_depths six D) (2 * width + 3) (pos 0) ≡ far)
unfolding tri_of shows depth_of covers depth_at area_of weight0 weight1 weight2 edge_of inside_of has_area agrees_of weighted_of
case_6 D e = (
  more 74240 ∙ eight_rows,
  depth-fresh six D e (corner-done 10 10 10) (2 * width + 2) (omega arith),
  depth-fresh six D e (corner-done 10 10 10) (2 * width + 3) (omega arith),
)

-- ---- rule 9.7
abbrev pub seven : List ℕ
seven = corner 0 3 4294967293

pub case_7 : (D : List ℤ) → D ≡ far_ints pixels
    → (get_or (flat_depths seven D) 2 (pos 0) ≡ pos 1) × (get_or (flat_depths seven D) width (pos 0) ≡ pos 0) × (get_or (flat_depths seven D) (2 * width) (pos 0) ≡ negsuc 0)
unfolding tri_of shows depth_of covers depth_at area_of weight0 weight1 weight2 edge_of inside_of has_area agrees_of weighted_of
case_7 D e = (
  depth-fresh seven D e (corner-done 0 3 4294967293) 2 (omega arith),
  depth-fresh seven D e (corner-done 0 3 4294967293) width (omega arith),
  depth-fresh seven D e (corner-done 0 3 4294967293) (2 * width) (omega arith),
)

-- ---- rule 9.8
abbrev pub eight : List ℕ
eight = corner 2147483647 2147483647 2147483647

-- three equal depths are the depth everywhere
even_sum : (w0 w1 w2 z : ℤ) → w0 *ℤ z +ℤ w1 *ℤ z +ℤ w2 *ℤ z ≡ (w0 +ℤ w1 +ℤ w2) *ℤ z
even_sum w0 w1 w2 z =
    ring 4 (w0, (w1, (w2, (z, tt)))) (add (add (mul (var 0) (var 3)) (mul (var 1) (var 3))) (mul (var 2) (var 3))) (mul (add (add (var 0) (var 1)) (var 2)) (var 3)) tt

eight_area : area_of (tri_of eight) ≡ negsuc 15
unfolding tri_of area_of edge_of
eight_area = refl

eight_depth : (x y : ℕ) → depth_at (tri_of eight) x y ≡ far
unfolding depth_at weighted_of tri_of
eight_depth x y =
    ap (λ (s : ℤ). quot_z s (area_of (tri_of eight))) (even_sum (weight0 (tri_of eight) x y) (weight1 (tri_of eight) x y) (weight2 (tri_of eight) x y) far)
    ∙ ap (λ (a : ℤ). quot_z (a *ℤ far) (area_of (tri_of eight))) (sym (weights_sum (tri_of eight) x y))
    ∙ ap (λ (a : ℤ). quot_z (a *ℤ far) a) eight_area

never : (k : ℕ) → shows (tri_of eight) k far ≡ false
unfolding shows
never k = rw (eight_depth (k % width) (k / width)) (and-false (covers (tri_of eight) (k % width) (k / width)))

pub case_8 : (D : List ℤ) (P : List ℕ) → D ≡ far_ints pixels → length P ≡ plane_bytes → (flat_depths eight D ≡ D) × (flat_plane eight D P ≡ P)
unfolding flat_depths flat_plane tri_depths tri_plane depth_step byte_step
case_8 D P e whole =
    let passes = corner-done 2147483647 2147483647 2147483647 in
    let l : length D ≡ pixels = ap length e ∙ length-replicate pixels far in (
      rw passes (sym (map-none (pos 0) (depth_step (shows (tri_of eight)) (depth_of (tri_of eight))) D (λ k h. rw (old k (omega arith), never k)))),
      rw passes (sym (map-none 0 (byte_step (pos 0) (shows (tri_of eight)) (paint (tri_of eight).color) D) P (λ j h. rw (old (j / 4) (omega arith), never (j / 4))))),
    )
  where
    old : (k : ℕ) → k < pixels → get_or D k (pos 0) ≡ far
    old k h = ap (λ (xs : List ℤ). get_or xs k (pos 0)) e ∙ get_or-replicate pixels k far (pos 0) h

-- ---- rule 9.9, whatever the corners
pub case_9 : (a b c d e f g h i rgb : ℕ)
    → ((tri_of (a ∷ b ∷ c ∷ d ∷ e ∷ f ∷ g ∷ h ∷ i ∷ 0x80_8080 ∷ 128 ∷ [])).color ≡ record { r = 64; g = 64; b = 64; a = 255 })
    × (tri_of (a ∷ b ∷ c ∷ d ∷ e ∷ f ∷ g ∷ h ∷ i ∷ rgb ∷ 300 ∷ []) ≡ tri_of (a ∷ b ∷ c ∷ d ∷ e ∷ f ∷ g ∷ h ∷ i ∷ rgb ∷ 255 ∷ []))
unfolding tri_of shaded_of
case_9 a b c d e f g h i rgb = (refl, refl)

-- ---- rule 9.10, on either side; the index is that of the coordinate, the first of several
abbrev pub utmost : List ℕ
utmost = 8192 ∷ 4294959104 ∷ 0 ∷ 8192 ∷ 8192 ∷ 2147483648 ∷ 4294959104 ∷ 8192 ∷ 2147483647 ∷ 0xff_ffff ∷ 255 ∷ []

-- the triangle that is taken has an area
pub utmost-area : has_area (area_of (tri_of utmost)) ≡ true
unfolding tri_of area_of edge_of has_area
utmost-area = refl

pub case_10 : (flat_verdict utmost ≡ done)
    × (flat_verdict (set utmost 0 8193) ≡ refused OutOfRange 0)
    × (flat_verdict (set utmost 1 8193) ≡ refused OutOfRange 1)
    × (flat_verdict (set utmost 3 8193) ≡ refused OutOfRange 3)
    × (flat_verdict (set utmost 4 8193) ≡ refused OutOfRange 4)
    × (flat_verdict (set utmost 6 8193) ≡ refused OutOfRange 6)
    × (flat_verdict (set utmost 7 8193) ≡ refused OutOfRange 7)
    × (flat_verdict (set utmost 7 4294959103) ≡ refused OutOfRange 7)
    × (flat_verdict (set (set utmost 6 8193) 4 8193) ≡ refused OutOfRange 4)
    × (bits_of (flat_verdict (set utmost 0 8193)) ≡ 8)
unfolding flat_verdict in_reach
case_10 = (refl, refl, refl, refl, refl, refl, refl, refl, refl, refl)

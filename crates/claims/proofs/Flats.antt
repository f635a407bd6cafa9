-- What a flat triangle leaves on the screen as a reset leaves it, byte by byte and pixel by pixel: cases 6, 7, 8 and 10 of the table. Assumes nothing.
use Prim.Native.Nat.{ℕ, zero, suc, ◌+◌, ◌*◌, ◌/◌, ◌%◌, ◌≤◌, ◌<◌}
use mathlib.Core.Path.{◌≡◌, refl, ap, ◌∙◌}
use mathlib.Core.Bool.{Bool, true, false, cond, not, ◌&&◌}
use mathlib.Core.List.{List}
use native.Mathlib.Nat.{zero-add, suc-add}
use native.Mathlib.Omega.{arith}
use borrow.Author.Tests.{lt-ltb}
use lib.Dec.{eqb}
use lib.IntN.{ℤ, pos, negsuc}
use lib.Signed.{lt_z}
use lib.ListN.{length, get_or, replicate, length-replicate, get_or-replicate}
use Rattle.laws.proofs.Cells.{length-map_at, get_or-map_at}
use Rattle.screen.specs.Dither.{level_of, dither_of}
use Rattle.screen.specs.Plane.{width, height, plane_bytes, shown, paint, pixel_of}
use Rattle.screen.proofs.Pixels.{on_screen}
use Rattle.screen.specs.Draw.{pixels, byte_step}
use Rattle.screen.specs.Depths.{far_ints}
use Rattle.flat.specs.declared.tri.Tri.{Tri}
use Rattle.flat.specs.Edge.{edge_of, agrees_of, has_area, inside_of, weighted_of}
use Rattle.flat.specs.Tri.{area_of, weight0, weight1, weight2, covers, depth_at, shows, tri_plane}
use Rattle.flat.specs.Words.{shaded_of, tri_of, flat_verdict, in_reach, flat_depths, flat_plane}
use Rattle.flat.proofs.Side.{below_it}
use Rattle.flat.proofs.Cases as cases
use Rattle.flat.proofs.Cases.{six}
use Rattle.execute.specs.Paints as paints
use Rattle.execute.specs.Paints.{Picture, picture, paint_on}
use Rattle.execute.specs.Kept.{Machine}
use Rattle.claims.specs.Plain.{plain_start}
use Rattle.claims.specs.Thirteen.{pixel_in, depth_in, colour, count_of, drawn, utmost}

abbrev start : List ℕ
start = replicate plane_bytes 0

abbrev far : ℤ
far = pos 2147483647

-- a picture as a reset leaves it
pub record Fresh (p : Picture) : Type 0 where
  pub plane : p.plane ≡ start
  pub depth : p.depth ≡ far_ints pixels

pub fresh_start : Fresh plain_start.picture
fresh_start = record { plane = refl; depth = refl }

-- ---- any triangle
module _ (p : Picture) (h : Fresh p) (t : Tri) where
  -- the plane after it
  abbrev after : List ℕ
  after = tri_plane t p.depth p.plane

  long : length p.plane ≡ plane_bytes
  long = ap length h.plane ∙ length-replicate {A = ℕ} plane_bytes 0

  byte_of : (j : ℕ) → j < plane_bytes → get_or after j 0 ≡ cond (shows t (j / 4) far) (paint t.color j 0) 0
  unfolding tri_plane byte_step
  byte_of j l =
      let old : get_or p.plane j 0 ≡ 0 = ap (λ (l : List ℕ). get_or l j 0) h.plane ∙ get_or-replicate plane_bytes j 0 0 l in
      let deep : get_or p.depth (j / 4) (pos 0) ≡ far = ap (λ (l : List ℤ). get_or l (j / 4) (pos 0)) h.depth ∙ get_or-replicate pixels (j / 4) far (pos 0) (omega arith) in
      rw (deep, old) at (get_or-map_at (byte_step (pos 0) (shows t) (paint t.color) p.depth) p.plane j 0 (omega (arith, long)))

  first_of : (k : ℕ) → k < pixels → get_or after (k * 4) 0 ≡ cond (shows t k far) (paint t.color (k * 4) 0) 0
  first_of k l =
      let j : k * 4 / 4 ≡ k = omega arith in
      rw j at (byte_of (k * 4) (omega arith))

  channel-of : (k i : ℕ) → k < pixels → i < 4 → get_or after (k * 4 + i) 0 ≡ cond (shows t k far) (paint t.color (k * 4 + i) 0) 0
  channel-of k i l c =
      let j : (k * 4 + i) / 4 ≡ k = omega arith in
      rw j at (byte_of (k * 4 + i) (omega arith))

  pixel_of_lem : (x y : ℕ) → x < width → y < height
      → pixel_of after x y
      ≡ colour (cond (shows t (y * width + x) far) (paint t.color ((y * width + x) * 4) 0) 0) (cond (shows t (y * width + x) far) (paint t.color ((y * width + x) * 4 + 1) 0) 0)
      (cond (shows t (y * width + x) far) (paint t.color ((y * width + x) * 4 + 2) 0) 0) (cond (shows t (y * width + x) far) (paint t.color ((y * width + x) * 4 + 3) 0) 0)
  unfolding tri_plane
  pixel_of_lem x y a b =
      let k : ℕ = y * width + x in
      let inside : k < pixels = omega arith in
      on_screen after x y (length-map_at _ p.plane ∙ long) a b ∙ cc (first_of k inside, channel-of k 1 inside (omega arith), channel-of k 2 inside (omega arith), channel-of k 3 inside (omega arith))

-- ---- 6: the pixels that are drawn are those that it covers
alpha_six : (k : ℕ) → paint (tri_of six).color (k * 4 + 3) 0 ≡ 255
unfolding paint shown tri_of
alpha_six k =
    let last : (k * 4 + 3) % 4 ≡ 3 = omega arith in
    rw last

-- four bytes that are written, the last as 255, or left at 0
four : (b : Bool) (x y z : ℕ) → not (eqb (cond b 255 0) 0 && (eqb (cond b x 0) 0 && (eqb (cond b y 0) 0 && eqb (cond b z 0) 0))) ≡ b
four true x y z = refl
four false x y z = refl

module _ (p : Picture) (h : Fresh p) where
  drawn_six : (k : ℕ) → k < pixels → drawn (tri_plane (tri_of six) p.depth p.plane) k ≡ shows (tri_of six) k far
  unfolding drawn
  drawn_six k l =
      rw (channel-of p h (tri_of six) k 3 l (omega arith), channel-of p h (tri_of six) k 2 l (omega arith), channel-of p h (tri_of six) k 1 l (omega arith), first_of p h (tri_of six) k l, alpha_six k)
      (four (shows (tri_of six) k far) (paint (tri_of six).color (k * 4 + 2) 0) (paint (tri_of six).color (k * 4 + 1) 0) (paint (tri_of six).color (k * 4) 0))

-- which pixels are counted
count_of_same : (f g : ℕ → Bool) (n : ℕ) → ((k : ℕ) → k < n → f k ≡ g k) → count_of f n ≡ count_of g n
unfolding count_of
count_of_same f g zero h = refl
count_of_same f g (suc n) h = rw (h n (omega arith), count_of_same f g n (λ k l. h k (omega arith)))

abbrev covered : ℕ → Bool
covered k = shows (tri_of six) k far

below_five : (k : ℕ) → 5 * width ≤ k → covered k ≡ false
unfolding shows tri_of
below_five k h =
    let row : 5 ≤ k / width = omega arith in
    rw (below_it (tri_of six) (k % width) (k / width) (record { first = past 0 (omega arith); second = past 0 (omega arith); third = past 4 (omega arith) }))
  where
    past : (n : ℕ) → n < k / width → lt_z (pos n) (pos (k / width)) ≡ true
    past n h = lt-ltb n (k / width) h

five_rows : count_of covered (5 * width) ≡ 15
unfolding count_of tri_of shows covers depth_at area_of weight0 weight1 weight2 edge_of inside_of has_area agrees_of weighted_of
five_rows = refl

skip : (n : ℕ) → 5 * width ≤ n → count_of covered (suc n) ≡ count_of covered n
unfolding count_of
skip n h = ap (λ (b : Bool). cond b 1 0 + count_of covered n) (below_five n h) ∙ zero-add (count_of covered n)

more : (k : ℕ) → count_of covered (k + 5 * width) ≡ count_of covered (5 * width)
more zero = ap (count_of covered) (zero-add (5 * width))
more (suc k) = ap (count_of covered) (suc-add k (5 * width)) ∙ skip (k + 5 * width) (omega arith) ∙ more k

covered_count : count_of covered pixels ≡ 15
covered_count = more 75200 ∙ five_rows

-- ---- a machine that shows one of the table's triangles
module _ (p : Picture) (h : Fresh p) where
  in_out : (pixel_of (tri_plane (tri_of six) p.depth p.plane) 2 2 ≡ colour 255 255 255 255) × (pixel_of (tri_plane (tri_of six) p.depth p.plane) 3 2 ≡ colour 0 0 0 0)
  unfolding paint shown dither_of level_of tri_of shaded_of shows covers depth_at area_of weight0 weight1 weight2 edge_of inside_of has_area agrees_of weighted_of
  in_out = (pixel_of_lem p h (tri_of six) 2 2 (omega arith) (omega arith), pixel_of_lem p h (tri_of six) 3 2 (omega arith) (omega arith))

  -- 10: the first pixel and the last
  ends : (pixel_of (tri_plane (tri_of utmost) p.depth p.plane) 0 0 ≡ colour 255 255 255 255) × (pixel_of (tri_plane (tri_of utmost) p.depth p.plane) 319 239 ≡ colour 255 255 255 255)
  unfolding paint shown dither_of level_of tri_of shaded_of shows covers depth_at area_of weight0 weight1 weight2 edge_of inside_of has_area agrees_of weighted_of
  ends = (pixel_of_lem p h (tri_of utmost) 0 0 (omega arith) (omega arith), pixel_of_lem p h (tri_of utmost) 319 239 (omega arith) (omega arith))

  module _ (m : Machine) where
    pub shown_six : m.picture ≡ paint_on (paints.flat (tri_of six)) p → (count_of (drawn m.picture.plane) pixels ≡ 15) × (pixel_in m 2 2 ≡ colour 255 255 255 255) × (pixel_in m 3 2 ≡ colour 0 0 0 0)
    unfolding paint_on
    shown_six e = rw e (count_of_same (drawn (tri_plane (tri_of six) p.depth p.plane)) covered pixels (drawn_six p h) ∙ covered_count, in_out.0, in_out.1)

    pub shown_seven : m.picture ≡ paint_on (paints.flat (tri_of cases.seven)) p → (depth_in m 2 0 ≡ pos 1) × (depth_in m 0 1 ≡ pos 0) × (depth_in m 0 2 ≡ negsuc 0)
    unfolding paint_on flat_depths flat_verdict in_reach
    shown_seven e = rw e (cases.case_7 p.depth h.depth)

    pub shown_eight : m.picture ≡ paint_on (paints.flat (tri_of cases.eight)) p → m.picture ≡ p
    unfolding paint_on flat_depths flat_plane flat_verdict in_reach
    shown_eight e =
        let same = cases.case_8 p.depth p.plane h.depth (ap length h.plane ∙ length-replicate {A = ℕ} plane_bytes 0) in
        e ∙ (λ i. picture (same.1 i) (same.0 i) p.depth_f)

    pub shown-utmost : m.picture ≡ paint_on (paints.flat (tri_of utmost)) p → (pixel_in m 0 0 ≡ colour 255 255 255 255) × (pixel_in m 319 239 ≡ colour 255 255 255 255)
    unfolding paint_on
    shown-utmost e = rw e (ends.0, ends.1)

-- How many vertices a plane can leave: at most 3/2 of those it is given, and 28 after six planes from three, however the distances round; a NaN is outside.
-- A vertex inside weighs 1 and one outside 0. No side adds more than (3 + the weight of its end - the weight of its start) / 2 vertices: going out adds 1, coming in 2,
-- staying in 1. Round the polygon the weights cancel.
-- Assumes nothing.
use Rattle.std.proofs.Common.{◌≡◌, ℕ, zero, suc, ◌+◌, ◌*◌, ◌/◌, ◌<◌, ◌≤◌, Bool, true, false, cond, ltb, List, [], ◌∷◌, ◌++◌, length, refl, arith, length-append}
use lib.Ieee.{unlike}
use Rattle.clip.specs.Polygons.{Kind, inside_of, crossing_of, side_of, sides_from, last_of, clip, clip_from, clip_all}
use Rattle.clip.specs.Vertices.{room, cuttable}

abbrev pub weight : Bool → ℕ
weight true = 1
weight false = 0

sided : {X : Type 0} (a b : Bool) (v c : X) → 2 * length (cond (unlike a b) (v ∷ []) [] ++ cond b (c ∷ []) []) + weight a ≤ 3 + weight b
sided true true v c = omega arith
sided true false v c = omega arith
sided false true v c = omega arith
sided false false v c = omega arith

module _ {X : Type 0} (k : Kind X) (plane : ℕ) where
  abbrev pub weight_of : X → ℕ
  weight_of v = weight (inside_of (k.distance plane v))

  side-most : (p c : X) → 2 * length (side_of k plane p c) + weight_of p ≤ 3 + weight_of c
  unfolding side_of
  side-most p c =
      let d = k.distance plane p in
      let e = k.distance plane c in
      sided (inside_of d) (inside_of e) (crossing_of k d e p c) c

  sides-most : (p : X) (cs : List X) → 2 * length (sides_from k plane p cs) + weight_of p ≤ 3 * length cs + weight_of (last_of p cs)
  unfolding sides_from last_of
  sides-most p [] = omega arith
  sides-most p (c ∷ cs) = omega (arith, side-most p c, sides-most c cs, length-append (side_of k plane p c) (sides_from k plane c cs))

  pub twice_most : (vs : List X) → 2 * length (clip k plane vs) ≤ 3 * length vs
  unfolding clip last_of
  twice_most [] = omega arith
  twice_most (c ∷ cs) = omega (arith, sides-most (last_of c cs) (c ∷ cs))

  pub clip-most : (vs : List X) → length (clip k plane vs) ≤ 3 * length vs / 2
  clip-most vs = omega (arith, twice_most vs)

-- ---- six planes: 3, 4, 6, 9, 13, 19, 28
abbrev pub most : ℕ → ℕ → ℕ
most zero m = m
most (suc n) m = most n (3 * m / 2)

-- a plane more, at the other end
pub most_out : (n m : ℕ) → most (suc n) m ≡ 3 * most n m / 2
most_out zero m = refl
most_out (suc n) m = most_out n (3 * m / 2)

-- more planes can leave more
pub most-more : (n d : ℕ) → most n 3 ≤ most (n + d) 3
most-more n zero =
    let e : n + zero ≡ n = omega arith in
    rw e (omega arith)
most-more n (suc d) =
    let e : n + suc d ≡ suc (n + d) = omega arith in
    rw e (omega (arith, most-more n d, most_out (n + d) 3))

-- five planes leave 19 at most
pub most_five : (n : ℕ) → n < 6 → most n 3 ≤ cuttable
most_five zero h = omega arith
most_five (suc zero) h = omega arith
most_five (suc (suc zero)) h = omega arith
most_five (suc (suc (suc zero))) h = omega arith
most_five (suc (suc (suc (suc zero)))) h = omega arith
most_five (suc (suc (suc (suc (suc zero))))) h = omega arith
most_five (suc (suc (suc (suc (suc (suc n)))))) h = absurd (omega arith)

kept-most : {X : Type 0} (b : Bool) (vs : List X) (m : ℕ) → length vs ≤ m → length (cond b [] vs) ≤ m
kept-most true vs m h = omega arith
kept-most false vs m h = h

module _ {X : Type 0} (k : Kind X) where
  from-most : (n plane : ℕ) (vs : List X) (m : ℕ) → length vs ≤ m → length (clip_from k n plane vs) ≤ most n m
  unfolding clip_from
  from-most zero plane vs m h = h
  from-most (suc n) plane vs m h =
      kept-most (ltb (length (clip k plane vs)) 3) (clip_from k n (plane + 1) (clip k plane vs)) (most n (3 * m / 2))
      (from-most n (plane + 1) (clip k plane vs) (3 * m / 2) (omega (arith, twice_most k plane vs)))

  pub all_most : (vs : List X) → length vs ≤ 3 → length (clip_all k vs) ≤ room
  unfolding clip_all
  all_most vs h = from-most 6 0 vs 3 h

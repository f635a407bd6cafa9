-- The loop of `clip_polygon`. At each turn what is in `out`, followed by what the sides that are left add, is the whole answer; so its length bounds n.
-- Assumes nothing.
use Rattle.std.proofs.Common.{◌≡◌, ℕ, ◌+◌, ◌-◌, ◌<◌, ◌≤◌, true, false, cond, List, [], ◌∷◌, ◌++◌, length, get_or, take, drop, set, sym, refl, ap, ◌∙◌, append_assoc, append-nil, add-one, arith, length-append, length-set, drop_of_length-le, length-take-le, drop-cons, get_or-take, take-suc-set}
use lib.Ieee.{Float, unlike}
use Rattle.clip.specs.declared.vertex.ClipVertex.{ClipVertex}
use Rattle.clip.specs.declared.polygon.Polygon.{Polygon}
use Rattle.clip.specs.Polygons.{inside_of, crossing_of, side_of, sides_from, last_of, clip}
use Rattle.clip.specs.Vertices.{distance_of, no_vertex, full, room, cuttable, of, Holds}
use Rattle.clip.proofs.Most.{twice_most}

-- before side i: p is where it starts, at distance d, and n vertices have been put
pub record Walked (plane : ℕ) (vs : List ClipVertex) (p : ClipVertex) (d : Float) (out : List ClipVertex) (n i : ℕ) : Type 0 where
  pub far : d ≡ distance_of plane p.position
  pub long : length out ≡ room
  pub few : n ≤ room
  pub rest : take n out ++ sides_from full plane p (drop i vs) ≡ clip full plane vs

-- in the middle of side i, which ends at c: its crossing has been put, if it has one
pub record Half (plane : ℕ) (vs : List ClipVertex) (c : ClipVertex) (e : Float) (out : List ClipVertex) (n i : ℕ) : Type 0 where
  pub long : length out ≡ room
  pub few : n ≤ room
  pub rest : take n out ++ (cond (inside_of e) (c ∷ []) [] ++ sides_from full plane c (drop (i + 1) vs)) ≡ clip full plane vs

-- ---- one more vertex
module _ (out : List ClipVertex) (n : ℕ) (long : length out ≡ room) (few : n ≤ room) (v : ClipVertex) (rest whole : List ClipVertex) (all : take n out ++ (v ∷ rest) ≡ whole) where
  room_for : length whole ≤ room → n < room
  room_for most = omega (arith, ap length all, length-append (take n out) (v ∷ rest), length-take-le n out (omega arith))

  put : n < room → take (n + 1) (set out n v) ++ rest ≡ whole
  put h =
      let k : n < length out = omega arith in
      rw (add-one, take-suc-set out n v k, append_assoc) all

-- ---- a side
side-at : (plane : ℕ) (vs : List ClipVertex) (p : ClipVertex) (i : ℕ) → i < length vs
    → sides_from full plane p (drop i vs) ≡ side_of full plane p (get_or vs i no_vertex) ++ sides_from full plane (get_or vs i no_vertex) (drop (i + 1) vs)
unfolding sides_from
side-at plane vs p i h = rw (add-one, drop-cons vs i no_vertex)

side-is : (plane : ℕ) (p c : ClipVertex) (d e : Float) → d ≡ distance_of plane p.position → e ≡ distance_of plane c.position
    → side_of full plane p c ≡ cond (unlike (inside_of d) (inside_of e)) (crossing_of full d e p c ∷ []) [] ++ cond (inside_of e) (c ∷ []) []
unfolding side_of
side-is plane p c d e h k = rw (h, k)

-- side i ends at c, at distance e; and the whole answer fits
pub record Side (plane : ℕ) (vs : List ClipVertex) (i : ℕ) (c : ClipVertex) (e : Float) : Type 0 where
  pub here : i < length vs
  pub ends : get_or vs i no_vertex ≡ c
  pub far : e ≡ distance_of plane c.position
  pub fits : length (clip full plane vs) ≤ room

-- ---- the first half of a turn: the crossing
module _ {plane : ℕ} {vs : List ClipVertex} {p c : ClipVertex} {d e : Float} {out : List ClipVertex} {n i : ℕ} (w : Walked plane vs p d out n i) (s : Side plane vs i c e) where
  now_at : take n out ++ ((cond (unlike (inside_of d) (inside_of e)) (crossing_of full d e p c ∷ []) [] ++ cond (inside_of e) (c ∷ []) []) ++ sides_from full plane c (drop (i + 1) vs))
      ≡ clip full plane vs
  now_at = rw (← side-is plane p c d e w.far s.far) (rw s.ends at (rw (side-at plane vs p i s.here) at w.rest))

  pub cross_fits : unlike (inside_of d) (inside_of e) ≡ true → n < room
  cross_fits x = room_for out n w.long w.few _ _ _ (rw x at now_at) s.fits

  pub crossed : {v : ClipVertex} → unlike (inside_of d) (inside_of e) ≡ true → v ≡ crossing_of full d e p c → Half plane vs c e (set out n v) (n + 1) i
  crossed x g =
      let h : n < room = cross_fits x in
      record { long = simp length-set w.long; few = omega arith; rest = rw g (put out n w.long w.few _ _ _ (rw x at now_at) h) }

  pub uncrossed : unlike (inside_of d) (inside_of e) ≡ false → Half plane vs c e out n i
  uncrossed x = record { long = w.long; few = w.few; rest = rw x at now_at }

-- ---- the second half: the end
module _ {plane : ℕ} {vs : List ClipVertex} {c : ClipVertex} {e : Float} {out : List ClipVertex} {n i : ℕ} (w : Half plane vs c e out n i) (s : Side plane vs i c e) where
  pub end_fits : inside_of e ≡ true → n < room
  end_fits x = room_for out n w.long w.few _ _ _ (rw x at w.rest) s.fits

  pub entered : inside_of e ≡ true → Walked plane vs c e (set out n c) (n + 1) (i + 1)
  entered x =
      let h : n < room = end_fits x in
      record { far = s.far; long = simp length-set w.long; few = omega arith; rest = put out n w.long w.few _ _ _ (rw x at w.rest) h }

  pub left_out : inside_of e ≡ false → Walked plane vs c e out n (i + 1)
  left_out x = record { far = s.far; long = w.long; few = w.few; rest = rw x at w.rest }

-- ---- where the loop begins and ends
last_at : (c : ClipVertex) (cs : List ClipVertex) → get_or (c ∷ cs) (length cs) no_vertex ≡ last_of c cs
unfolding last_of
last_at c [] = refl
last_at c (b ∷ cs) = last_at b cs

-- the first side comes from the last vertex
clip-is : (plane : ℕ) (vs : List ClipVertex) → 0 < length vs → sides_from full plane (get_or vs (length vs - 1) no_vertex) vs ≡ clip full plane vs
unfolding clip
clip-is plane [] h = absurd (omega arith)
clip-is plane (c ∷ cs) h =
    let one : length (c ∷ cs) - 1 ≡ length cs = omega arith in
    rw (one, last_at c cs)

module _ (plane : ℕ) (all : List ClipVertex) (count : ℕ) (long : length all ≡ room) (few : count ≤ cuttable) where
  used : length (take count all) ≡ count
  used = length-take-le count all (omega arith)

  pub side-of : {i : ℕ} {e : Float} → i < count → e ≡ distance_of plane (get_or (take count all) i no_vertex).position → Side plane (take count all) i (get_or (take count all) i no_vertex) e
  side-of {i} h f = record { here = omega (arith, used); ends = refl; far = f; fits = omega (arith, twice_most full plane (take count all), used) }

  pub begun : {d : Float} → 0 < count → d ≡ distance_of plane (get_or all (count - 1) no_vertex).position → Walked plane (take count all) (get_or all (count - 1) no_vertex) d all 0 0
  begun h f =
      let same : get_or (take count all) (length (take count all) - 1) no_vertex ≡ get_or all (count - 1) no_vertex = rw used (get_or-take count all (count - 1) no_vertex (omega arith)) in
      record { far = f; long = long; few = omega arith; rest = rw same at (clip-is plane (take count all) (omega (arith, used))) }

  pub ended : {p : ClipVertex} {d : Float} {out : List ClipVertex} {n i : ℕ} → Walked plane (take count all) p d out n i → count ≤ i
      → Holds (record { vertices = out; count = n }) (clip full plane (take count all))
  unfolding sides_from
  ended {out = out} {n = n} {i = i} w h =
      let past : length (take count all) ≤ i = omega (arith, used) in
      let none : drop i (take count all) ≡ [] = drop_of_length-le (take count all) past in
      let are : take n out ≡ clip full plane (take count all) = sym (append-nil (take n out)) ∙ (rw none at w.rest) in
      record { few = w.few; long = sym (length-take-le n out (omega (arith, w.long, w.few))) ∙ ap length are; are = are }

-- if there are no vertices, none are left
pub empty : (plane : ℕ) (p : Polygon) → p.count ≡ 0 → Holds p (clip full plane (of p))
unfolding clip
empty plane p h = record { few = omega arith; long = rw h; are = rw h }

-- Clipping of polygons, as lists of vertices of any kind. The original's `clip_polygon`, the loop over six planes and the fan of `draw_transformed_triangle_impl`.
-- Definitions only.
use Rattle.std.specs.Prelude.{ℕ, zero, suc, ◌+◌, Bool, true, cond, ◌&&◌, List, [], ◌∷◌, ◌++◌, length, ◌==◌, nat_lt, Float}
use Rattle.std.specs.Float.Ieee.{unlike, le}
use Rattle.ieee.specs.Units.{zero32}
use Rattle.vector.specs.Three.{◌⊖◌, ◌⊘◌}

-- a kind of vertex: how far inside a plane it is, and the vertex that is t of the way to another
pub record Kind (X : Type 0) : Type 0 where
  pub distance : ℕ → X → Float
  pub between : Float → X → X → X

-- `previous_distance >= 0.0`: a NaN is outside
abbrev pub inside_of : Float → Bool
inside_of d = le zero32 d

-- `t` and the vertex that is pushed for it: the side from p to c, at distances d and e, crosses the plane there
abbrev pub crossing_of : {X : Type 0} → Kind X → Float → Float → X → X → X
crossing_of k d e p c = k.between (d ⊘ (d ⊖ e)) p c

-- a turn of `clip_polygon`'s loop, from the previous vertex p to the current c: the crossing if just one of the two is inside, then c if it is inside
unfoldable pub side_of : {X : Type 0} → Kind X → ℕ → X → X → List X
side_of k plane p c =
    let d = k.distance plane p in
    let e = k.distance plane c in
    cond (unlike (inside_of d) (inside_of e)) (crossing_of k d e p c ∷ []) [] ++ cond (inside_of e) (c ∷ []) []

-- the loop `for current in polygon`, from the previous vertex p on
unfoldable pub sides_from : {X : Type 0} → Kind X → ℕ → X → List X → List X
sides_from k plane p [] = []
sides_from k plane p (c ∷ cs) = side_of k plane p c ++ sides_from k plane c cs

-- `polygon.last()` of p and what follows it
unfoldable pub last_of : {X : Type 0} → X → List X → X
last_of p [] = p
last_of p (c ∷ cs) = last_of c cs

-- rule 5.6, `clip_polygon`: the sides in order, the first from the last vertex. No vertices give none
unfoldable pub clip : {X : Type 0} → Kind X → ℕ → List X → List X
clip k plane [] = []
clip k plane (v ∷ vs) = sides_from k plane (last_of v vs) (v ∷ vs)

-- `for plane in 0..6`, with n planes left. As soon as there are fewer than three vertices (`polygon.len() < 3`), the result has none
unfoldable pub clip_from : {X : Type 0} → Kind X → ℕ → ℕ → List X → List X
clip_from k zero plane vs = vs
clip_from k (suc n) plane vs = cond (nat_lt (length (clip k plane vs)) 3) [] (clip_from k n (plane + 1) (clip k plane vs))

unfoldable pub clip_all : {X : Type 0} → Kind X → List X → List X
clip_all k vs = clip_from k 6 0 vs

-- `for i in 1..polygon.len() - 1`: the first vertex with each two neighbours after it
unfoldable pub fan_from : {X : Type 0} → X → List X → List (List X)
fan_from a [] = []
fan_from a (b ∷ []) = []
fan_from a (b ∷ (c ∷ cs)) = (a ∷ b ∷ c ∷ []) ∷ fan_from a (c ∷ cs)

-- rule 5.7: a polygon is drawn as these triangles
unfoldable pub fan : {X : Type 0} → List X → List (List X)
fan [] = []
fan (a ∷ vs) = fan_from a vs

-- added: a plane cuts nothing off these vertices
unfoldable pub whole : {X : Type 0} → Kind X → ℕ → List X → Bool
whole k plane [] = true
whole k plane (v ∷ vs) = inside_of (k.distance plane v) && whole k plane vs

-- added: the first of the n planes from `plane` on that cuts something off, or the one after them
unfoldable pub next_cut : {X : Type 0} → Kind X → ℕ → ℕ → List X → ℕ
next_cut k zero plane vs = plane
next_cut k (suc n) plane vs = cond (whole k plane vs) (next_cut k n (plane + 1) vs) plane

-- added: none of the six cuts anything off. Then the triangle is drawn as it is (`inside-drawn`, proofs/Whole.antt)
unfoldable pub all_inside : {X : Type 0} → Kind X → List X → Bool
all_inside k vs = next_cut k 6 0 vs == 6

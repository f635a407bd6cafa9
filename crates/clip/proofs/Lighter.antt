-- Two kinds of vertex of which one is the other with something left out: clipping the one and leaving it out is clipping the other. So for request A11: the clipped
-- vertex cut down to position, colour and texture coordinates.
-- Assumes nothing.
use Rattle.std.proofs.Common.{◌≡◌, ℕ, zero, suc, ◌+◌, Bool, true, false, cond, ltb, List, [], ◌∷◌, ◌++◌, map, length, sym, refl, ap, ◌∙◌}
use mathlib.Core.List.{map-append}
use lib.ListN.{length-map}
use lib.Ieee.{Float, unlike}
use Rattle.clip.specs.declared.vertex.ClipVertex.{ClipVertex}
use Rattle.clip.specs.Polygons.{Kind, inside_of, crossing_of, side_of, sides_from, last_of, clip, clip_from, clip_all, fan_from, fan}
use Rattle.clip.specs.Vertices.{distance_of, mixed_of, mix_vertex, full}

-- l sees of a vertex what k does, through f
pub record Sees {X : Type 0} {Y : Type 0} (k : Kind X) (l : Kind Y) (f : X → Y) : Type 0 where
  pub distance : (plane : ℕ) (v : X) → l.distance plane (f v) ≡ k.distance plane v
  pub between : (t : Float) (p c : X) → f (k.between t p c) ≡ l.between t (f p) (f c)

put_seen : {X : Type 0} {Y : Type 0} (f : X → Y) (a b : Bool) (v c : X) → map f (cond a (v ∷ []) [] ++ cond b (c ∷ []) []) ≡ cond a (f v ∷ []) [] ++ cond b (f c ∷ []) []
put_seen f true true v c = refl
put_seen f true false v c = refl
put_seen f false true v c = refl
put_seen f false false v c = refl

kept_seen : {X : Type 0} {Y : Type 0} (f : X → Y) (b : Bool) (vs : List X) → map f (cond b [] vs) ≡ cond b [] (map f vs)
kept_seen f true vs = refl
kept_seen f false vs = refl

module _ {X : Type 0} {Y : Type 0} (f : X → Y) where
  last_seen : (p : X) (cs : List X) → last_of (f p) (map f cs) ≡ f (last_of p cs)
  unfolding last_of
  last_seen p [] = refl
  last_seen p (c ∷ cs) = last_seen c cs

  fan-from_seen : (a : X) (vs : List X) → map (map f) (fan_from a vs) ≡ fan_from (f a) (map f vs)
  unfolding fan_from
  fan-from_seen a [] = refl
  fan-from_seen a (b ∷ []) = refl
  fan-from_seen a (b ∷ (c ∷ cs)) = ap (λ (r : List (List Y)). (f a ∷ f b ∷ f c ∷ []) ∷ r) (fan-from_seen a (c ∷ cs))

  pub fan_seen : (vs : List X) → map (map f) (fan vs) ≡ fan (map f vs)
  unfolding fan
  fan_seen [] = refl
  fan_seen (a ∷ vs) = fan-from_seen a vs

module _ {X : Type 0} {Y : Type 0} (k : Kind X) (l : Kind Y) (f : X → Y) (s : Sees k l f) where
  side_seen : (plane : ℕ) (p c : X) → map f (side_of k plane p c) ≡ side_of l plane (f p) (f c)
  unfolding side_of
  side_seen plane p c =
      let d = k.distance plane p in
      let e = k.distance plane c in
      rw (s.distance plane p, s.distance plane c, ← s.between) (put_seen f (unlike (inside_of d) (inside_of e)) (inside_of e) (crossing_of k d e p c) c)

  sides_seen : (plane : ℕ) (p : X) (cs : List X) → map f (sides_from k plane p cs) ≡ sides_from l plane (f p) (map f cs)
  unfolding sides_from
  sides_seen plane p [] = refl
  sides_seen plane p (c ∷ cs) = rw (map-append, side_seen plane p c, sides_seen plane c cs)

  pub clip_seen : (plane : ℕ) (vs : List X) → map f (clip k plane vs) ≡ clip l plane (map f vs)
  unfolding clip
  clip_seen plane [] = refl
  clip_seen plane (v ∷ vs) = sides_seen plane (last_of v vs) (v ∷ vs) ∙ ap (λ (p : Y). sides_from l plane p (map f (v ∷ vs))) (sym (last_seen f v vs))

  from_seen : (n plane : ℕ) (vs : List X) → map f (clip_from k n plane vs) ≡ clip_from l n plane (map f vs)
  unfolding clip_from
  from_seen zero plane vs = refl
  from_seen (suc n) plane vs =
      rw (← clip_seen plane vs, length-map (clip k plane vs) f, ← from_seen n (plane + 1) (clip k plane vs)) (kept_seen f (ltb (length (clip k plane vs)) 3) (clip_from k n (plane + 1) (clip k plane vs)))

  pub all_seen : (vs : List X) → map f (clip_all k vs) ≡ clip_all l (map f vs)
  unfolding clip_all
  all_seen vs = from_seen 6 0 vs

-- ---- the vertex of A11
pub record LightVertex : Type 0 where
  pub position : List Float
  pub color : List Float
  pub uv : List Float

abbrev pub lighten : ClipVertex → LightVertex
lighten v = record { position = v.position; color = v.color; uv = v.uv }

abbrev pub light : Kind LightVertex
light = record {
  distance = λ plane v. distance_of plane v.position;
  between = λ t p c. record { position = mixed_of 4 t p.position c.position; color = mixed_of 4 t p.color c.color; uv = mixed_of 2 t p.uv c.uv };
}

pub sees : Sees full light lighten
unfolding mix_vertex
sees = record { distance = λ plane v. refl; between = λ t p c. refl }

-- what is drawn of a clipped triangle, lightened, is what is drawn of the lightened triangle, clipped
pub lighter : (t : List ClipVertex) → map (map lighten) (fan (clip_all full t)) ≡ fan (clip_all light (map lighten t))
lighter t = fan_seen lighten (clip_all full t) ∙ ap fan (all_seen full light lighten sees t)

-- What is inside a plane is not cut by it, so planes may be passed over up to the next that cuts something; and a triangle inside all six is drawn as it is.
-- Assumes nothing.
--     clip-whole      one plane
--     skipped         the planes up to the next that cuts something
--     inside-whole    all six
--     inside-drawn    and the fan of a triangle: for a caller that builds no polygon
use Rattle.std.proofs.Common.{◌≡◌, ℕ, zero, suc, ◌+◌, ◌-◌, ◌<◌, ◌≤◌, Bool, true, false, cond, not, ◌&&◌, List, [], ◌∷◌, length, sym, refl, ap, ◌∙◌, arith, le-ltb, eqb-true}
use lib.Ieee.{Float}
use Rattle.clip.specs.Polygons.{Kind, inside_of, side_of, sides_from, last_of, clip, clip_from, clip_all, fan_from, fan, whole, next_cut, all_inside}

-- both of two tests that hold together
both : (a b : Bool) → (a && b) ≡ true → (a ≡ true) × (b ≡ true)
both true true h = (refl, refl)
both true false h = (refl, h)
both false b h = (h, let z : ◌≡◌ {A = ℕ} 0 1 = cc in absurd (omega arith))

not_true : (b : Bool) → not b ≡ true → b ≡ false
not_true true h = sym h
not_true false h = refl

not_false : (b : Bool) → not b ≡ false → b ≡ true
not_false true h = refl
not_false false h = sym h

either : (b : Bool) {a p m : ℕ} → (p ≤ a) × (a ≤ m) → p ≤ m → (p ≤ cond b a p) × (cond b a p ≤ m)
either true w h = w
either false w h = (omega arith, h)

module _ {X : Type 0} (k : Kind X) where
  module _ (plane : ℕ) where
    side-whole : (p c : X) → inside_of (k.distance plane p) ≡ true → inside_of (k.distance plane c) ≡ true → side_of k plane p c ≡ c ∷ []
    unfolding side_of
    side-whole p c h e = rw (h, e)

    sides-whole : (p : X) (cs : List X) → inside_of (k.distance plane p) ≡ true → whole k plane cs ≡ true → sides_from k plane p cs ≡ cs
    unfolding sides_from whole
    sides-whole p [] h e = refl
    sides-whole p (c ∷ cs) h e =
        let w = both (inside_of (k.distance plane c)) (whole k plane cs) e in
        rw (side-whole p c h w.0, sides-whole c cs w.0 w.1)

    last_whole : (c : X) (cs : List X) → whole k plane (c ∷ cs) ≡ true → inside_of (k.distance plane (last_of c cs)) ≡ true
    unfolding last_of whole
    last_whole c [] e = (both (inside_of (k.distance plane c)) true e).0
    last_whole c (b ∷ cs) e = last_whole b cs (both (inside_of (k.distance plane c)) (whole k plane (b ∷ cs)) e).1

    pub clip-whole : (vs : List X) → whole k plane vs ≡ true → clip k plane vs ≡ vs
    unfolding clip
    clip-whole [] e = refl
    clip-whole (v ∷ vs) e = sides-whole (last_of v vs) (v ∷ vs) (last_whole v vs e) e

  -- ---- one plane of a search for the next that cuts something
  module _ (n plane : ℕ) (vs : List X) where
    pub stopped : whole k plane vs ≡ false → next_cut k (suc n) plane vs ≡ plane
    unfolding next_cut
    stopped h = rw h

    pub went : whole k plane vs ≡ true → next_cut k (suc n) plane vs ≡ next_cut k n (plane + 1) vs
    unfolding next_cut
    went h = rw h

  pub next_bounds : (n plane : ℕ) (vs : List X) → (plane ≤ next_cut k n plane vs) × (next_cut k n plane vs ≤ plane + n)
  unfolding next_cut
  next_bounds zero plane vs = (omega arith, omega arith)
  next_bounds (suc n) plane vs =
      let w = next_bounds n (plane + 1) vs in
      either (whole k plane vs) (omega arith, omega arith) (omega arith)

  -- one vertex, at distance d from a plane before `stop`
  module _ (v : X) (plane stop : ℕ) {d : Float} (far : d ≡ k.distance plane v) (here : plane < stop) where
    pub out_here : not (inside_of d) ≡ true → next_cut k (stop - plane) plane (v ∷ []) ≡ plane
    unfolding next_cut whole
    out_here h =
        let n : stop - plane ≡ suc (stop - (plane + 1)) = omega arith in
        let e : inside_of d ≡ false = not_true (inside_of d) h in
        rw (n, ← far, e)

    pub in_here : not (inside_of d) ≡ false → next_cut k (stop - plane) plane (v ∷ []) ≡ next_cut k (stop - (plane + 1)) (plane + 1) (v ∷ [])
    unfolding next_cut whole
    in_here h =
        let n : stop - plane ≡ suc (stop - (plane + 1)) = omega arith in
        let e : inside_of d ≡ true = not_false (inside_of d) h in
        rw (n, ← far, e)

  -- if there are no vertices, nothing is cut off
  pub next_none : (n plane : ℕ) → next_cut k n plane [] ≡ plane + n
  unfolding next_cut whole
  next_none zero plane = omega arith
  next_none (suc n) plane = next_none n (plane + 1) ∙ omega arith

  more_by : (i : Bool) (plane s a : ℕ) (vs : List X) → plane + 1 ≤ s → a ≡ next_cut k (s - (plane + 1)) (plane + 1) vs
      → cond (i && whole k plane vs) a plane ≡ next_cut k (cond (i && true) s plane - plane) plane vs
  unfolding next_cut
  more_by true plane s a vs h e =
      let n : s - plane ≡ suc (s - (plane + 1)) = omega arith in
      rw (n, e)
  more_by false plane s a vs h e =
      let n : plane - plane ≡ 0 = omega arith in
      rw n

  -- a vertex and those after it: the vertex says how far to look
  pub next_more : (n plane : ℕ) (v : X) (vs : List X) → next_cut k n plane (v ∷ vs) ≡ next_cut k (next_cut k n plane (v ∷ []) - plane) plane vs
  unfolding next_cut whole
  next_more zero plane v vs =
      let n : plane - plane ≡ 0 = omega arith in
      rw n
  next_more (suc n) plane v vs =
      more_by (inside_of (k.distance plane v)) plane (next_cut k n (plane + 1) (v ∷ [])) _ vs (next_bounds n (plane + 1) (v ∷ [])).0 (next_more n (plane + 1) v vs)

  -- ---- planes passed over
  passed : (n plane : ℕ) (vs : List X) → 3 ≤ length vs → whole k plane vs ≡ true → clip_from k (suc n) plane vs ≡ clip_from k n (plane + 1) vs
  unfolding clip_from
  passed n plane vs h e = rw (clip-whole plane vs e, le-ltb (length vs) 3 h)

  pub skipped : (n plane : ℕ) (vs : List X) → 3 ≤ length vs
      → clip_from k n plane vs ≡ clip_from k (plane + n - next_cut k n plane vs) (next_cut k n plane vs) vs
  unfolding next_cut
  skipped zero plane vs h =
      let n : plane + 0 - plane ≡ 0 = omega arith in
      rw n
  skipped (suc n) plane vs h = by (whole k plane vs) refl (skipped n (plane + 1) vs h)
    where
      by : (b : Bool) → whole k plane vs ≡ b
          → clip_from k n (plane + 1) vs ≡ clip_from k (plane + 1 + n - next_cut k n (plane + 1) vs) (next_cut k n (plane + 1) vs) vs
          → clip_from k (suc n) plane vs ≡ clip_from k (plane + suc n - cond b (next_cut k n (plane + 1) vs) plane) (cond b (next_cut k n (plane + 1) vs) plane) vs
      by true e rest =
          let m : plane + suc n ≡ plane + 1 + n = omega arith in
          rw m (passed n plane vs h e ∙ rest)
      by false e rest =
          let m : plane + suc n - plane ≡ suc n = omega arith in
          rw m

  pub inside-whole : (vs : List X) → 3 ≤ length vs → all_inside k vs ≡ true → clip_all k vs ≡ vs
  unfolding all_inside clip_all clip_from
  inside-whole vs h e =
      let all : next_cut k 6 0 vs ≡ 6 = eqb-true (next_cut k 6 0 vs) 6 e in
      rw all at (skipped 6 0 vs h)

  three-fan : (t : List X) → length t ≡ 3 → fan t ≡ t ∷ []
  unfolding fan fan_from
  three-fan [] h = absurd (omega arith)
  three-fan (a ∷ []) h = absurd (omega arith)
  three-fan (a ∷ (b ∷ [])) h = absurd (omega arith)
  three-fan (a ∷ (b ∷ (c ∷ []))) h = refl
  three-fan (a ∷ (b ∷ (c ∷ (d ∷ l)))) h = absurd (omega arith)

  pub inside-drawn : (t : List X) → length t ≡ 3 → all_inside k t ≡ true → fan (clip_all k t) ≡ t ∷ []
  inside-drawn t h e = ap fan (inside-whole t (omega arith) e) ∙ three-fan t h

-- The loop of `clip_all`: what the planes that are left make of the polygon is what all six make of the triangle.
-- Assumes nothing.
use Rattle.std.proofs.Common.{◌≡◌, ℕ, suc, ◌+◌, ◌-◌, ◌<◌, ◌≤◌, cond, ltb, List, [], ◌∷◌, length, get_or, sym, refl, ap, ◌∙◌, add-one, arith, le-ltb, lt-ltb}
use Rattle.clip.specs.declared.vertex.ClipVertex.{ClipVertex}
use Rattle.clip.specs.declared.polygon.Polygon.{Polygon}
use Rattle.clip.specs.Polygons.{clip, clip_from, clip_all, next_cut}
use Rattle.clip.specs.Vertices.{no_vertex, full, cuttable, of, Holds}
use Rattle.clip.proofs.Whole.{next_bounds, skipped}
use Rattle.clip.proofs.Most.{most, most_out, most-more, most_five, twice_most}

-- before a plane: the polygon has as many vertices as the planes so far can have left, and the planes from there on make the answer of it
pub record Carried (answer : List ClipVertex) (p : Polygon) (plane : ℕ) : Type 0 where
  pub few : p.count ≤ most plane 3
  pub many : 3 ≤ p.count
  pub long : p.count ≡ length (of p)
  pub rest : clip_from full (6 - plane) plane (of p) ≡ answer

module _ {answer : List ClipVertex} {p : Polygon} {plane : ℕ} (w : Carried answer p plane) (here : plane < 6) where
  pub at_most : p.count ≤ cuttable
  at_most = omega (arith, most_five plane here, w.few)

  next_is : cond (ltb (length (clip full plane (of p))) 3) [] (clip_from full (5 - plane) (plane + 1) (clip full plane (of p))) ≡ answer
  unfolding clip_from
  next_is =
      let n : 6 - plane ≡ suc (5 - plane) = omega arith in
      rw n at w.rest

  module _ {q : Polygon} (h : Holds q (clip full plane (of p))) where
    pub carried : 3 ≤ q.count → Carried answer q (plane + 1)
    carried k =
        let n : 6 - (plane + 1) ≡ 5 - plane = omega arith in
        let many : 3 ≤ length (clip full plane (of p)) = omega (arith, h.long) in
        record {
          few = rw add-one (omega (arith, most_out plane 3, twice_most full plane (of p), w.few, w.long, h.long));
          many = k;
          long = h.long ∙ sym (ap length h.are);
          rest = rw (n, h.are) (rw (le-ltb (length (clip full plane (of p))) 3 many) at next_is);
        }

    pub none_left : q.count < 3 → Holds (record { vertices = q.vertices; count = 0 }) answer
    none_left k =
        let short : length (clip full plane (of p)) < 3 = omega (arith, h.long) in
        let e : [] ≡ answer = rw (lt-ltb (length (clip full plane (of p))) 3 short) at next_is in
        record { few = omega arith; long = ap length e; are = e }

-- the planes up to the next that cuts something make no difference
pub on_to : {answer : List ClipVertex} {p : Polygon} {plane next : ℕ} → Carried answer p plane → plane ≤ 6 → next ≡ next_cut full (6 - plane) plane (of p)
    → (next ≤ 6) × Carried answer p next
on_to {answer} {p} {plane} {next} w l e =
    let b = next_bounds full (6 - plane) plane (of p) in
    let low : plane ≤ next = omega arith in
    let high : next ≤ 6 = omega arith in
    let up : plane + (next - plane) ≡ next = omega arith in
    let six : plane + (6 - plane) ≡ 6 = omega arith in (
      high,
      record {
        few = omega (arith, w.few, rw up at (most-more plane (next - plane)));
        many = w.many;
        long = w.long;
        rest = sym (rw (six, ← e) at (skipped full (6 - plane) plane (of p) (omega (arith, w.many, w.long)))) ∙ w.rest;
      },
    )

pub done : {answer : List ClipVertex} {p : Polygon} {plane : ℕ} → Carried answer p plane → plane ≤ 6 → 6 ≤ plane → Holds p answer
unfolding clip_from
done {answer} {p} {plane} w l h =
    let last : plane ≡ 6 = omega arith in
    let n : 6 - plane ≡ 0 = omega arith in
    let e : of p ≡ answer = rw n at w.rest in
    record { few = rw last at w.few; long = w.long ∙ ap length e; are = e }

-- a list of three, by its elements
pub three : (t : List ClipVertex) → length t ≡ 3 → get_or t 0 no_vertex ∷ get_or t 1 no_vertex ∷ get_or t 2 no_vertex ∷ [] ≡ t
three [] h = absurd (omega arith)
three (a ∷ []) h = absurd (omega arith)
three (a ∷ (b ∷ [])) h = absurd (omega arith)
three (a ∷ (b ∷ (c ∷ []))) h = refl
three (a ∷ (b ∷ (c ∷ (d ∷ l)))) h = absurd (omega arith)

pub started : (p : Polygon) → p.count ≡ 3 → length (of p) ≡ 3 → Carried (clip_all full (of p)) p 0
unfolding clip_all
started p h k = record { few = omega arith; many = omega arith; long = h ∙ sym k; rest = refl }

-- For a loop that walks the fan of a polygon by value: its triangles from i on, by the one at i, i + 1 and those from i + 1 on.
-- Assumes nothing.
use Rattle.std.proofs.Common.{◌≡◌, ℕ, zero, suc, ◌+◌, ◌<◌, ◌≤◌, List, [], ◌∷◌, length, get_or, take, drop, refl, arith, length-drop, length-take-le}
use Rattle.clip.specs.declared.vertex.ClipVertex.{ClipVertex}
use Rattle.clip.specs.Polygons.{fan_from, fan}
use Rattle.clip.specs.Vertices.{no_vertex}
use Rattle.clip.proofs.Held.{held-from}

-- a loop starts at 1
pub fan-first : (all : List ClipVertex) (count : ℕ) → fan (take count all) ≡ fan_from (get_or all 0 no_vertex) (drop 1 (take count all))
unfolding fan fan_from
fan-first all zero = refl
fan-first [] (suc n) = refl
fan-first (v ∷ all) (suc n) = refl

few : (a : ClipVertex) (l : List ClipVertex) → length l ≤ 1 → fan_from a l ≡ []
unfolding fan_from
few a [] h = refl
few a (b ∷ []) h = refl
few a (b ∷ (c ∷ l)) h = absurd (omega arith)

module _ (all : List ClipVertex) (count : ℕ) (fits : count ≤ length all) (a : ClipVertex) (i : ℕ) where
  pub fan_last : count ≤ i + 1 → fan_from a (drop i (take count all)) ≡ []
  fan_last h = few a (drop i (take count all)) (omega (arith, length-drop i (take count all), length-take-le count all fits))

  pub fan_next : i + 1 < count
      → fan_from a (drop i (take count all)) ≡ (a ∷ get_or all i no_vertex ∷ get_or all (i + 1) no_vertex ∷ []) ∷ fan_from a (drop (i + 1) (take count all))
  unfolding fan_from
  fan_next h = rw (held-from all count fits i (omega arith), held-from all count fits (i + 1) h)

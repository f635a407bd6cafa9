-- How many vertices do come up, by computing: twelve of a triangle of floats, 28 of three vertices whose distances may be any, and thirty of a polygon of twenty at one plane.
-- So nine places are too few, no bound below 28 holds of every kind of vertex (28 does: `all_most`), and `clip_polygon` may not be asked to cut twenty.
-- Assumes nothing.
use Rattle.std.proofs.Common.{◌≡◌, ℕ, zero, suc, ◌+◌, ◌≤◌, Bool, false, cond, ◌||◌, eqb, List, [], ◌∷◌, length, get_or, refl, arith}
use contract.Lifetimes.{Lfts}
use lib.Ieee.{binary32, of_bits, le, add, sub, mul, div}
use Rattle.ieee.specs.Units.{zero32, one32}
use Rattle.clip.specs.declared.vertex.ClipVertex.{ClipVertex}
use Rattle.clip.specs.declared.polygon.Polygon.{Polygon}
use Rattle.clip.specs.Polygons.{Kind, side_of, sides_from, last_of, clip, clip_from, clip_all}
use Rattle.clip.specs.Vertices.{distance_of, mix_vertex, full, room, of}
use Rattle.clip.proofs.polygon.clip_polygon.Reads.{Asked, Learnt}

-- a vertex at a position, which is given by bit patterns; its other numbers are 0.0
abbrev placed : ℕ → ℕ → ℕ → ℕ → ClipVertex
placed x y z w = record {
  position = of_bits binary32 x ∷ of_bits binary32 y ∷ of_bits binary32 z ∷ of_bits binary32 w ∷ [];
  view_position = zero32 ∷ zero32 ∷ zero32 ∷ [];
  normal = zero32 ∷ zero32 ∷ zero32 ∷ [];
  color = zero32 ∷ zero32 ∷ zero32 ∷ zero32 ∷ [];
  uv = zero32 ∷ zero32 ∷ [];
}

-- ---- floats: the planes leave 4, 6, 8, 9, 10 and 12 vertices of this triangle
abbrev pub triangle : List ClipVertex
triangle =
    placed 0x5809_9bab 0xbf35_a143 0x5efd_ba86 0x3ae6_b64e
    ∷ placed 0x2381_0a40 0x0a55_9e88 0x2828_3b32 0xa5a9_2d0a
    ∷ placed 0x83a0_be73 0x3d3e_907a 0x9f82_3679 0x7163_42bc
    ∷ []

pub twelve : length (clip_all full triangle) ≡ 12
unfolding clip_all clip_from clip last_of sides_from side_of distance_of mix_vertex le of_bits add sub mul div
twelve = refl

pub twelve_fit : length (clip_all full triangle) ≤ room
twelve_fit = omega (arith, twelve)

-- ---- any distances: vertices that are names, of which each plane has every second one outside
abbrev among : ℕ → List ℕ → Bool
among v [] = false
among v (x ∷ xs) = eqb v x || among v xs

abbrev outside : List (List ℕ)
outside =
    (1 ∷ [])
    ∷ (0 ∷ 6 ∷ [])
    ∷ (4 ∷ 5 ∷ 11 ∷ [])
    ∷ (13 ∷ 14 ∷ 15 ∷ 16 ∷ [])
    ∷ (7 ∷ 21 ∷ 27 ∷ 28 ∷ 36 ∷ 37 ∷ [])
    ∷ (20 ∷ 25 ∷ 26 ∷ 34 ∷ 41 ∷ 46 ∷ 64 ∷ 73 ∷ 82 ∷ [])
    ∷ []

abbrev pub crossed : Kind ℕ
crossed = record {
  distance = λ plane v. cond (among v (get_or outside plane [])) (of_bits binary32 0xbf80_0000) one32;
  between = λ t p c. p + c + 3;
}

pub reached : length (clip_all crossed (0 ∷ 1 ∷ 2 ∷ [])) ≡ 28
unfolding clip_all clip_from clip last_of sides_from side_of le of_bits
reached = refl

-- no number below `room` bounds what six planes leave of three
pub room_least : (n : ℕ) → ((k : Kind ℕ) (vs : List ℕ) → length vs ≤ 3 → length (clip_all k vs) ≤ n) → room ≤ n
room_least n h = omega (arith, reached, h crossed (0 ∷ 1 ∷ 2 ∷ []) (omega arith))

-- ---- a polygon of twenty: by turns at x = 0 and at x = -2, w is 1
abbrev turns : ℕ → List ClipVertex
turns zero = []
turns (suc n) = placed 0 0 0 0x3f80_0000 ∷ placed 0xc000_0000 0 0 0x3f80_0000 ∷ turns n

abbrev pub twenty : Polygon
twenty = record { vertices = turns 14; count = 20 }

pub thirty : length (clip full 0 (of twenty)) ≡ 30
unfolding clip last_of sides_from side_of distance_of le of_bits add
thirty = refl

module _ (κs : Lfts 0) where
  -- no polygon that `clip_polygon` could return of it would do, by its contract
  pub unmet : (r : Polygon) → Learnt κs (twenty, (0, tt)) r (twenty, (0, tt)) → ⊥
  unmet r h = omega (arith, h.few, h.long, thirty)

  -- and the contract asks for none
  pub unasked : Asked κs (twenty, (0, tt)) → ⊥
  unasked h = omega arith

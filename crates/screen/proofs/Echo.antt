-- Bytes that repeat those before them: one turn of the loop, and what a painted pattern becomes. Assumes nothing.
use mathlib.Core.Path.{◌≡◌, sym, ap, ◌∙◌}
use mathlib.Core.List.{List}
use Prim.Native.Nat.{ℕ, ◌+◌, ◌-◌, ◌%◌, ◌<◌, ◌≤◌}
use native.Mathlib.Nat.{mod-lt, mod-eq_of_lt, mod-eq-sub-mod}
use native.Mathlib.Decide.{dec_lt}
use native.Mathlib.Omega.{arith}
use lib.ListN.{length, get_or}
use Rattle.laws.specs.Cells.{map_range}
use Rattle.laws.proofs.Cells.{get_or-under, get_or_in, range_swap, range_join}
use Rattle.screen.specs.Plane.{echo, paint, shown}
use Rattle.screen.specs.declared.plane.Rgba.{Rgba}

module _ (xs : List ℕ) (size start : ℕ) (some : 0 < size) (room : size ≤ start) where
  -- what a turn reads is what the definition says of its place
  pub echo_turn : (i old : ℕ) (ys : List ℕ) → ys ≡ map_range (echo xs size start) start i xs → start ≤ i → i < length xs → echo xs size start i old ≡ get_or ys (i - size) 0
  unfolding echo
  echo_turn i old ys e p q = go (dec_lt (i - size) start)
    where
      go : Dec (i - size < start) → echo xs size start i old ≡ get_or ys (i - size) 0
      go (yes h) =
          let m : (i - start) % size ≡ i - start = mod-eq_of_lt (omega arith) in
          let at : start - size + (i - start) % size ≡ i - size = omega arith in
          ap (λ (k : ℕ). get_or xs k 0) at ∙ sym (rw e (get_or-under (echo xs size start) start i xs (i - size) 0 (omega arith) h))
      go (no h) =
          let m : (i - start) % size ≡ (i - start - size) % size = mod-eq-sub-mod (omega arith) in
          let n : i - start - size ≡ i - size - start = omega arith in
          ap (λ (k : ℕ). get_or xs (start - size + k) 0) (m ∙ ap (λ (k : ℕ). k % size) n)
          ∙ sym (rw e (get_or_in (echo xs size start) start i xs (i - size) 0 (omega arith) (omega arith) (omega arith)))

-- a run that is painted, and then repeated, is painted on, if the colour shows alike `size` bytes on
pub echo-painted : (c : Rgba) (size lo start end : ℕ) (xs ys zs : List ℕ) → 0 < size → lo + size ≤ start → start ≤ end → end ≤ length xs
    → ((k : ℕ) → start + k < end → shown c (start - size + k % size) ≡ shown c (start + k))
    → ys ≡ map_range (paint c) lo start xs → zs ≡ map_range (echo ys size start) start end ys → zs ≡ map_range (paint c) lo end xs
unfolding echo paint
echo-painted c size lo start end xs ys zs some room p q alike e f =
    f ∙ range_swap 0 (echo ys size start) (paint c) start end ys (λ j l u. same j l u ∙ alike (j - start) (omega arith) ∙ ap (shown c) (omega arith))
    ∙ ap (λ (l : List ℕ). map_range (paint c) start end l) e ∙ range_join 0 (paint c) lo start end xs (omega arith) p
  where
    same : (j : ℕ) → start ≤ j → j < end → get_or ys (start - size + (j - start) % size) 0 ≡ shown c (start - size + (j - start) % size)
    same j l u =
        let m : (j - start) % size < size = mod-lt (j - start) some in
        rw e (get_or_in (paint c) lo start xs (start - size + (j - start) % size) 0 (omega arith) (omega arith) (omega arith))

-- A loop that fills one array from another, element by element, gives the map of it: after i turns the first i elements are the map's. Assumes nothing.
use Prim.Native.Nat.{ℕ, ◌+◌, ◌≤◌, ◌<◌}
use mathlib.Core.Path.{◌≡◌, sym, ap, ◌∙◌}
use mathlib.Core.List.{List, [], ◌∷◌, ◌++◌, map}
use native.Mathlib.Numerals.{add-one}
use native.Mathlib.Omega.{arith}
use lib.ListN.{length, take, get_or, set, length-map, length-set, get_or-map}
use lib.Seq.{take_all, take-suc, take-suc-set}

module _ {A B : Type 0} (f : A → B) (n : ℕ) (from : List A) where
  -- `to` after i turns
  pub record Mapped (i : ℕ) (to : List B) : Type 0 where
    pub within : i ≤ n
    pub long-from : length from ≡ n
    pub long_to : length to ≡ n
    pub done : take i to ≡ take i (map f from)

module _ {A B : Type 0} {f : A → B} {n : ℕ} {from : List A} {i : ℕ} {to : List B} (m : Mapped f n from i to) where
  pub mapped_more : (d : A) {v : B} → v ≡ f (get_or from i d) → i < n → Mapped f n from (i + 1) (set to i v)
  mapped_more d {v} e h =
      record {
        within = omega arith;
        long-from = m.long-from;
        long_to = length-set to i v ∙ m.long_to;
        done =
            rw add-one
            (take-suc-set to i v (omega (arith, m.long_to))
            ∙ ap (λ (l : List B). l ++ (v ∷ [])) m.done
            ∙ ap (λ (x : B). take i (map f from) ++ (x ∷ [])) (e ∙ sym (get_or-map f from i d))
            ∙ sym (take-suc (map f from) i (f d) (omega (arith, m.long-from, length-map from f))));
      }

  pub mapped_all : n ≤ i → to ≡ map f from
  mapped_all h =
      sym (take_all i to (omega (arith, m.long_to)))
      ∙ m.done
      ∙ take_all i (map f from) (omega (arith, m.long-from, length-map from f))

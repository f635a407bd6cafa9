-- A test of every element of a list: its elements, and what the lists made of others inherit. Assumes nothing.
use Prim.Native.Nat.{ℕ, zero, suc, ◌<◌}
use mathlib.Core.Path.{◌≡◌, refl}
use mathlib.Core.Bool.{Bool, true, and-eq-true_iff}
use mathlib.Core.List.{List, [], ◌∷◌}
use native.Mathlib.Omega.{arith}
use lib.ListN.{length, take, drop, get_or, set}
use Rattle.std.specs.List.{list_all}

module _ {A : Type 0} (f : A → Bool) where
  -- every element does
  pub all-is : (l : List A) (d : A) → ((i : ℕ) → i < length l → f (get_or l i d) ≡ true) → list_all f l ≡ true
  all-is [] d h = refl
  all-is (x ∷ l) d h = (and-eq-true_iff (f x) (list_all f l)).1 (h zero (omega arith), all-is l d (λ i k. h (suc i) (omega arith)))

  pub all_take : (n : ℕ) (l : List A) → list_all f l ≡ true → list_all f (take n l) ≡ true
  all_take zero l h = refl
  all_take (suc n) [] h = refl
  all_take (suc n) (x ∷ l) h =
      let both = (and-eq-true_iff (f x) (list_all f l)).0 h in
      (and-eq-true_iff (f x) (list_all f (take n l))).1 (both.0, all_take n l both.1)

  pub all_drop : (n : ℕ) (l : List A) → list_all f l ≡ true → list_all f (drop n l) ≡ true
  all_drop zero l h = h
  all_drop (suc n) [] h = refl
  all_drop (suc n) (x ∷ l) h = all_drop n l ((and-eq-true_iff (f x) (list_all f l)).0 h).1

  pub all_set : (l : List A) (i : ℕ) (y : A) → list_all f l ≡ true → f y ≡ true → list_all f (set l i y) ≡ true
  all_set [] i y h e = refl
  all_set (x ∷ l) zero y h e = (and-eq-true_iff (f y) (list_all f l)).1 (e, ((and-eq-true_iff (f x) (list_all f l)).0 h).1)
  all_set (x ∷ l) (suc i) y h e =
      let both = (and-eq-true_iff (f x) (list_all f l)).0 h in
      (and-eq-true_iff (f x) (list_all f (set l i y))).1 (both.0, all_set l i y both.1 e)

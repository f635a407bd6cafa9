-- A loop that fills a slice from the front, at any element type: one invariant and three laws for every width. Assumes nothing.
use Prim.Native.Nat.{ℕ, zero, suc, ◌+◌, ◌≤◌, ◌<◌}
use mathlib.Core.Path.{◌≡◌, refl, ap, ◌∙◌}
use mathlib.Core.List.{List, [], ◌∷◌, ◌++◌, append-nil}
use native.Mathlib.Nat.{not-suc-le-zero, le_of_suc-le-suc}
use native.Mathlib.Numerals.{add-one}
use native.Mathlib.Omega.{arith}
use lib.ListN.{length, set, drop, replicate, length-set}
use lib.Seq.{drop-length}

-- s is s₀ with its first i elements v
pub record Filled {A : Type 0} (s₀ : List A) (v : A) (s : List A) (i : ℕ) : Type 0 where
  pub within : i ≤ length s₀
  pub len : length s ≡ length s₀
  pub is : s ≡ replicate i v ++ drop i s₀

module _ {A : Type 0} (s₀ : List A) (v : A) where
  pub filled_none : Filled s₀ v s₀ 0
  filled_none = record { within = omega arith; len = refl; is = refl }

  more : (n : ℕ) (d : List A) → n < length d → set (replicate n v ++ drop n d) n v ≡ replicate (suc n) v ++ drop (suc n) d
  more n [] l = absurd (not-suc-le-zero l)
  more zero (x ∷ d) l = refl
  more (suc n) (x ∷ d) l = ap (λ (t : List A). v ∷ t) (more n d (le_of_suc-le-suc l))

  pub filled_more : (s : List A) (i : ℕ) → Filled s₀ v s i → i < length s → Filled s₀ v (set s i v) (i + 1)
  filled_more s i f l =
      let h : i < length s₀ = omega (arith, f.len) in
      record {
        within = omega (arith, h);
        len = length-set s i v ∙ f.len;
        is = rw (add-one) (ap (λ (t : List A). set t i v) f.is ∙ more i s₀ h);
      }

  pub filled_all : (s : List A) (i : ℕ) → Filled s₀ v s i → length s ≤ i → s ≡ replicate (length s₀) v
  filled_all s i f l =
      let e : i ≡ length s₀ = omega (arith, f.len, f.within) in
      f.is ∙ rw (e, drop-length, append-nil)

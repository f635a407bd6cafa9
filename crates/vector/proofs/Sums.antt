-- A library sum, which starts from -0.0, is the sum that starts from its first term, if that is a value of binary32. So it is for each sum of products here. Assumes nothing.
use mathlib.Core.Path.{◌≡◌, refl, ap, ◌∙◌}
use mathlib.Core.Bool.{Bool, true, false, cond, ◌&&◌}
use mathlib.Core.List.{List, [], ◌∷◌}
use Prim.Native.Nat.{ℕ, zero, suc, ◌+◌, ◌*◌}
use native.Mathlib.Nat.{add-zero}
use lib.Dec.{T}
use lib.Ieee.{Float, binary32, of_bits, lt, fits}
use lib.Ieee.Bits.{of_bits-fits}
use lib.Ieee.Fits.{mul-fits, div-fits, nan-fits}
use lib.Ieee.Scale.{finite}
use Rattle.ieee.specs.Units.{zero32, one32}
use Rattle.ieee.specs.Root.{root}
use Rattle.ieee.proofs.Values.{minus-zero, from-minus-zero}
use Rattle.vector.specs.Three.{at, ◌·◌, ◌⊕◌, ◌⊘◌, dot_of, epsilon, scaled_of, normal_of}
use Rattle.vector.specs.Sums.{minus_zero, library_sum}
use Rattle.vector.specs.Matrices.{row_of, cell_of}

-- f 0 + f 1 + .. + f n, from the first term
abbrev pub first_sum : ℕ → (ℕ → Float) → Float
first_sum zero f = f 0
first_sum (suc n) f = first_sum n f ⊕ f (suc n)

minus-zero-is : minus_zero ≡ minus-zero
unfolding of_bits
minus-zero-is = refl

-- the one law
pub from_first : (n : ℕ) (f : ℕ → Float) → T (fits binary32 (f 0)) → library_sum (suc n) f ≡ first_sum n f
from_first zero f t = ap (λ (x : Float). x ⊕ f 0) minus-zero-is ∙ from-minus-zero (f 0) t
from_first (suc n) f t = ap (λ (x : Float). x ⊕ f (suc n)) (from_first n f t)

-- `(0..3).map(|i| normal[i] * to_light[i]).sum::<f32>()`: lines 954 to 956 of the original, and 959 to 961, 928 and, with a vector's squares, 932
pub dot_sum : (a b : List Float) → library_sum 3 (λ (i : ℕ). at a i · at b i) ≡ dot_of a b
dot_sum a b = from_first 2 (λ (i : ℕ). at a i · at b i) (mul-fits binary32 (at a 0) (at b 0))

-- `(0..4).map(|col| matrix[row * 4 + col] * position[col]).sum()`: lines 876 to 878
pub row_sum : (m : List Float) (p : ℕ) (v : List Float) → library_sum 4 (λ (col : ℕ). at m (p + col) · at v col) ≡ row_of m p v
row_sum m p v = from_first 3 (λ (col : ℕ). at m (p + col) · at v col) (mul-fits binary32 (at m (p + 0)) (at v 0)) ∙ simp add-zero

-- `(0..4).map(|k| a[row * 4 + k] * b[k * 4 + col]).sum()`: line 886
pub cell_sum : (m : List Float) (p q : ℕ) → library_sum 4 (λ (k : ℕ). at m (p + k) · at m (q + k * 4)) ≡ cell_of m p q
cell_sum m p q = from_first 3 (λ (k : ℕ). at m (p + k) · at m (q + k * 4)) (mul-fits binary32 (at m (p + 0)) (at m (q + 0))) ∙ simp add-zero

-- ---- terms that are no products: a normalised vector has values of binary32, in each place
pub three_fit : (a b c : Float) → T (fits binary32 a) → T (fits binary32 b) → T (fits binary32 c) → (i : ℕ) → T (fits binary32 (at (a ∷ b ∷ c ∷ []) i))
three_fit a b c p q r zero = p
three_fit a b c p q r (suc zero) = q
three_fit a b c p q r (suc (suc zero)) = r
three_fit a b c p q r (suc (suc (suc i))) = nan-fits binary32

scaled_fit : (v : List Float) (l : Float) (i : ℕ) → T (fits binary32 (at (scaled_of v l) i))
unfolding scaled_of
scaled_fit v l i = go (finite l && lt epsilon l)
  where
    go : (b : Bool) → T (fits binary32 (at (cond b (at v 0 ⊘ l ∷ at v 1 ⊘ l ∷ at v 2 ⊘ l ∷ []) (zero32 ∷ zero32 ∷ one32 ∷ [])) i))
    go true = three_fit (at v 0 ⊘ l) (at v 1 ⊘ l) (at v 2 ⊘ l) (div-fits binary32 (at v 0) l) (div-fits binary32 (at v 1) l) (div-fits binary32 (at v 2) l) i
    go false = three_fit zero32 zero32 one32 (of_bits-fits binary32 0) (of_bits-fits binary32 0) (of_bits-fits binary32 0x3f80_0000) i

pub normal_fits : (v : List Float) (i : ℕ) → T (fits binary32 (at (normal_of v) i))
unfolding normal_of
normal_fits v i = scaled_fit v (root (dot_of v v)) i

-- The sum of the three normals, which starts from the first, is the library sum, which starts from -0.0: a corner's normal has values of binary32. Assumes nothing.
use mathlib.Core.Path.{◌≡◌}
use mathlib.Core.Bool.{Bool, true, false}
use mathlib.Core.List.{List}
use Prim.Native.Nat.{ℕ, ◌+◌}
use lib.Dec.{T}
use lib.Ieee.{Float, binary32, fits}
use lib.Ieee.Bits.{of_bits-fits}
use Rattle.ieee.specs.Units.{zero32}
use Rattle.vector.specs.Three.{at}
use Rattle.vector.specs.Sums.{library_sum}
use Rattle.vector.specs.Normals.{apply_of}
use Rattle.vector.specs.declared.normal.Matrix3.{Matrix3}
use Rattle.vector.proofs.Sums.{from_first, three_fit, normal_fits}
use Rattle.payload.specs.Words.{three_at}
use Rattle.decide.specs.Corners.{first_of, normal_at, normal_in, corner_of, corner, normal_matrix_of, or_zero, corners_by, corners_of}
use Rattle.lit.specs.Lit.{sum_of}

normal_in_fits : (p : List ℕ) (o : ℕ) (normal : Bool) (matrix : Matrix3) (axis : ℕ) → T (fits binary32 (at (normal_in p o normal matrix) axis))
unfolding normal_in normal_at
normal_in_fits p o true matrix axis = normal_fits (apply_of matrix (three_at p (o + 3))) axis
normal_in_fits p o false matrix axis = three_fit zero32 zero32 zero32 (of_bits-fits binary32 0) (of_bits-fits binary32 0) (of_bits-fits binary32 0) axis

-- `vertices.iter().map(|vertex| vertex.normal[axis]).sum::<f32>()`: lines 715 to 718 of the original
module _ (p : List ℕ) (normal textured : Bool) (m : List Float) (axis : ℕ) where
  pub normal_sum : library_sum 3 (λ (i : ℕ). at (corner (corners_of p normal textured m) i).normal axis) ≡ sum_of (corners_of p normal textured m) axis
  unfolding corners_of corners_by corner_of
  normal_sum =
      from_first 2 (λ (i : ℕ). at (corner (corners_of p normal textured m) i).normal axis)
      (normal_in_fits p (first_of normal textured 0) normal (or_zero (normal_matrix_of m normal)) axis)

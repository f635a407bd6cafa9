-- The verdict of 19 if the matrix for normals is handed in. Assumes nothing.
use Prim.Native.Nat.{ℕ}
use mathlib.Core.Path.{◌≡◌}
use mathlib.Core.Bool.{true}
use mathlib.Core.List.{List, []}
use lib.Ieee.{Float}
use Rattle.std.specs.Prelude.{Option}
use Rattle.vector.specs.declared.normal.Matrix3.{Matrix3}
use Rattle.decide.specs.Corners.{normal_matrix_of}
use Rattle.decide.specs.Verdicts.{textured_by, checked_verdict}

-- 19 asks nothing of its corners
pub lit_is : (p : List ℕ) (m : List Float) {inverse : Option Matrix3} → inverse ≡ normal_matrix_of m true → textured_by p true inverse [] ≡ checked_verdict p true m
unfolding checked_verdict textured_by
lit_is p m e = rw e

-- `mix_of`, which starts from its first term, is the library sum of the same products, which starts from -0.0. Assumes nothing.
use mathlib.Core.Path.{◌≡◌}
use Prim.Native.Nat.{ℕ}
use lib.Ieee.{binary32}
use lib.Ieee.Fits.{mul-fits}
use Rattle.vector.specs.Three.{at, ◌·◌}
use Rattle.vector.specs.Sums.{library_sum}
use Rattle.vector.proofs.Sums.{from_first}
use Rattle.face.specs.declared.Corners.{Corners}
use Rattle.face.specs.Pixel.{mix_of}
use Rattle.face.specs.Source.{three_of}

-- `(0..3).map(|i| b[i] * tri[i].color[ch]).sum::<f32>()`: lines 631 to 633 of the original, and 624 for `uv`. The depth (617, 823) and the denominator (832) are written out there, as in `mix_of`
pub mix_sum : (b v : Corners) → library_sum 3 (λ (i : ℕ). at (three_of b) i · at (three_of v) i) ≡ mix_of b v
unfolding mix_of
mix_sum b v = from_first 2 (λ (i : ℕ). at (three_of b) i · at (three_of v) i) (mul-fits binary32 b.c0 v.c0)

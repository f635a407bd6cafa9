-- `ieee::range::abs` meets its contract, by cases on x. Assumes nothing.
use Rattle.std.proofs.Common.{◌≡◌, false, refl, ◌∙◌}
use Rattle.std.specs.Float.{float_with_sign}
use lib.Ieee.{Float, nan, inf, fin}
use Rattle.ieee.specs.Range.{abs_of}
use Rattle.ieee.proofs.range.abs.Goals as goal

same : (x : Float) → float_with_sign false x ≡ abs_of x
unfolding float_with_sign
same nan = refl
same (inf s) = refl
same (fin s m e) = refl

pub returns : goal.returns
returns c = c.abs.ensures.value ∙ same c.args.x

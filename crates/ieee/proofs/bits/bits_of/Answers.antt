-- `ieee::bits::bits_of` meets its contract: a NaN's bits are 7fc00000. Assumes nothing.
use Rattle.std.proofs.Common.{◌≡◌, true, sym, refl, ◌∙◌}
use lib.Ieee.{Float, nan, inf, fin, is_nan, binary32, to_bits}
use Rattle.ieee.proofs.bits.bits_of.Goals as goal

nan_bits : (x : Float) → is_nan x ≡ true → 0x7fc0_0000 ≡ to_bits binary32 x
unfolding is_nan to_bits
nan_bits nan h = refl
nan_bits (inf s) h = cc
nan_bits (fin s m e) h = cc

pub returns-then-is_nan : goal.returns-then-is_nan
returns-then-is_nan c = nan_bits c.args.x (sym c.is_nan.ensures.value ∙ c.if-is_nan.true)

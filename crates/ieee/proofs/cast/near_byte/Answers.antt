-- `ieee::cast::near_byte` meets its contract, by the comparisons (`Bytes.antt`). Assumes nothing.
use Rattle.std.proofs.Common.{◌≡◌, true, T, refl}
use lib.Ieee.{Float, lt, le, of_bits}
use Rattle.ieee.specs.Units.{wholes}
use Rattle.ieee.proofs.Bytes.{under-half, from_255}
use Rattle.ieee.proofs.cast.near_byte.Goals as goal

lt_le : (x y : Float) → lt x y ≡ true → T (le x y)
unfolding le
lt_le x y h = rw h tt

pub returns-then-v-2 : goal.returns-then-v-2
returns-then-v-2 c = (lt_le _ _ c.if-v.true, lt_le _ _ c.if-v-2.true, refl)

pub returns-then-v : goal.returns-then-v
unfolding le of_bits wholes
returns-then-v c = (tt, tt, from_255 c.args.v c.if-v.true c.if-v-2.false)

pub returns : goal.returns
unfolding le of_bits wholes
returns c = (tt, tt, under-half c.args.v 255 c.if-v.false)

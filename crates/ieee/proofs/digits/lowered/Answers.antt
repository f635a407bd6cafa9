use Rattle.std.proofs.Common.{ℕ, zero, suc, ◌+◌, ◌*◌, ◌<◌, ◌≤◌, arith}
use Rattle.ieee.proofs.NearRoot.{square_le}
use Rattle.ieee.proofs.digits.lowered.Goals as goal
use Rattle.ieee.proofs.digits.lowered.Goals.{In-loop-r}

positive : (a r : ℕ) → 0 < a → a + r ≤ r * r → 1 ≤ r
positive a zero h k = absurd (omega arith)
positive a (suc r) h k = omega arith

some : (c : In-loop-r) → 1 ≤ c.loop-r.r
some c = positive c.args.a c.loop-r.r c.requires.0 c.loop-r-test.true

pub loop-r-init : goal.loop-r-init
loop-r-init c = c.requires.2

pub overflow_add-a : goal.overflow_add-a
overflow_add-a c = omega arith

pub overflow_mul-r : goal.overflow_mul-r
overflow_mul-r c = omega (arith, square_le c.loop-r.r c.loop-r.invariant)

pub overflow_sub-r : goal.overflow_sub-r
overflow_sub-r c = some c

pub loop-r-smaller : goal.loop-r-smaller
loop-r-smaller c = omega (arith, some c)

pub loop-r-preserved : goal.loop-r-preserved
loop-r-preserved c = omega arith

pub returns : goal.returns
returns c = omega arith

use Rattle.std.proofs.Common.{ℕ, ◌+◌, ◌*◌, ◌<◌, ◌≤◌, subst, inl, inr, eq-or-lt_of_le, arith}
use Rattle.ieee.proofs.NearRoot.{next_square, square_le}
use Rattle.ieee.proofs.digits.near_root.Goals as goal
use Rattle.ieee.proofs.digits.near_root.Goals.{In-loop-r}

small : (a r : ℕ) → a < 281474976710656 → r ≤ 16777216 → r * r + r ≤ a → r < 16777216
small a r h k l = elim (eq-or-lt_of_le k) [ inl e ↦ absurd (omega (arith, subst (λ (x : ℕ). x * x + x ≤ a) e l)) | inr g ↦ g ]

below : (c : In-loop-r) → c.loop-r.r < 16777216
below c = small c.args.a c.loop-r.r c.requires.1 c.loop-r.invariant.0 (omega (arith, c.loop-r-test.true))

pub rough-requires : goal.rough-requires
rough-requires c = c.requires.1

pub lowered-r-requires : goal.lowered-r-requires
lowered-r-requires c = (c.requires.0, c.requires.1, c.rough.ensures)

pub loop-r-init : goal.loop-r-init
loop-r-init c = c.lowered-r.ensures

pub overflow_mul-r : goal.overflow_mul-r
overflow_mul-r c = omega (arith, square_le c.loop-r.r c.loop-r.invariant.0)

pub overflow_add-r : goal.overflow_add-r
overflow_add-r c = omega (arith, square_le c.loop-r.r c.loop-r.invariant.0)

pub overflow_add-r-in-loop-r : goal.overflow_add-r-in-loop-r
overflow_add-r-in-loop-r c = omega arith

pub loop-r-smaller : goal.loop-r-smaller
loop-r-smaller c = omega (arith, below c)

pub loop-r-preserved : goal.loop-r-preserved
loop-r-preserved c = omega (arith, below c, next_square c.loop-r.r)

pub returns : goal.returns
returns c = omega arith

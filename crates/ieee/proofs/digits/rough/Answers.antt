-- `ieee::digits::rough` meets its contract. A quotient is at most a, so that no sum wraps. Nothing is claimed about the guess but its bound, which is tested. Assumes nothing.
use Rattle.std.proofs.Common.{ℕ, ◌+◌, ◌/◌, div-le_self, arith}
use Rattle.ieee.proofs.digits.rough.Goals as goal

-- the first two guesses, for an a
abbrev line : ℕ → ℕ
line a = a / 24385488 + 5737808

abbrev heron : ℕ → ℕ → ℕ
heron a p = (p + a / p) / 2

pub overflow_add-q : goal.overflow_add-q
overflow_add-q c = let a = c.args.a in omega (arith, div-le_self a (line a))

pub overflow_add-r : goal.overflow_add-r
overflow_add-r c = let a = c.args.a in omega (arith, div-le_self a (line a), div-le_self a (heron a (line a)))

pub overflow_add-s : goal.overflow_add-s
overflow_add-s c = let a = c.args.a in omega (arith, div-le_self a (line a), div-le_self a (heron a (line a)), div-le_self a (heron a (heron a (line a))))

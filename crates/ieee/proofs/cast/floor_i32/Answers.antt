-- `ieee::cast::floor_i32` meets its contract. Assumes nothing.
use Rattle.std.proofs.Common.{ℕ, ◌<◌, pos, neg_ℤ, ap, ◌∙◌, arith, w32}
use lib.Ieee.{neg}
use mir.ValLaws.{to_z-of_z, to_z_pos}
use Rattle.ieee.proofs.Signs.{floor_under, floor_over}
use Rattle.ieee.proofs.Cuts.{cut_le, cut_up_le}
use Rattle.ieee.proofs.cast.floor_i32.Goals as goal
use Rattle.ieee.proofs.cast.floor_i32.Goals.{After-cut}

-- the positive side fits an i32
small : (c : After-cut) → c.cut.result < 2147483648
small c = omega (arith, c.cut.ensures, cut_le c.args.x 2147483647)

pub negated-requires : goal.negated-requires
negated-requires c = omega (arith, c.cut_up.ensures, cut_up_le (neg c.args.x) 2147483648)

pub overflow_cast-result : goal.overflow_cast-result
overflow_cast-result c = record { sfits = small c }

pub returns-then-x : goal.returns-then-x
returns-then-x c = let x = c.args.x in
    to_z-of_z w32 c.negated.result (record { sfits = c.negated.type_inv }) ∙ c.negated.ensures ∙ ap (λ (n : ℕ). neg_ℤ (pos n)) c.cut_up.ensures ∙ floor_under x c.if-x.true

pub returns-else-x : goal.returns-else-x
returns-else-x c = let x = c.args.x in
    to_z_pos w32 c.cut.result (small c) ∙ ap pos c.cut.ensures ∙ floor_over x c.if-x.false

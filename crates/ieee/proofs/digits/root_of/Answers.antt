-- `ieee::digits::root_of` meets its contract: the digits and the exponent that it works out are those of the definition (`Shape.antt`). Assumes nothing.
use Rattle.std.proofs.Common.{◌≡◌, ℕ, ◌+◌, ◌-◌, ◌*◌, ◌/◌, ◌%◌, ◌^◌, ◌<◌, ◌≤◌, subst, mod-eq_of_lt, arith}
use lib.Count.{count_leading_zeros}
use lib.Ieee.{binary32, of_bits}
use Rattle.ieee.specs.Root.{root_wholes}
use Rattle.ieee.proofs.NearRoot.{Near}
use Rattle.ieee.proofs.Shape.{lead, a_low, a_high, digits-high, root_pattern}
use Rattle.ieee.proofs.digits.root_of.Goals as goal

-- what is asked of d and k, and of the root's digits r
module _ (d k : ℕ) (pre : (0 < d) × (d < 2 ^ 24) × (k < 254)) where
  abbrev z : ℕ
  z = count_leading_zeros 32 d - 8

  abbrev A : ℕ
  A = d * 2 ^ (z + 23 + (126 + k - z) % 2)

  up : (8 ≤ count_leading_zeros 32 d) × (z ≤ 23) × (2 ^ 23 ≤ d * 2 ^ z) × (d * 2 ^ z < 2 ^ 24)
  up = lead d pre.0 pre.1

  -- the shift drops no digit
  kept : A % 2 ^ 64 ≡ A
  kept = mod-eq_of_lt (omega (arith, a_high d k z up.2 up.3 up.1))

  shifted : (0 < A % 2 ^ 64) × (A % 2 ^ 64 < 2 ^ 48)
  shifted = omega (arith, kept, a_low d k z up.2 up.3 up.1, a_high d k z up.2 up.3 up.1)

  module _ (r : ℕ) (near : Near (A % 2 ^ 64) r) where
    near_A : Near A r
    near_A = subst (λ (x : ℕ). Near x r) kept near

    high : r < 16777216
    high = digits-high d k z up.2 up.3 up.1 r near_A

    value : ((126 + k - z) / 2 * 8388608 + r < 0x7f80_0000) × (of_bits binary32 ((126 + k - z) / 2 * 8388608 + r) ≡ root_wholes (d * 2 ^ k))
    value = root_pattern d k z up.2 up.3 up.1 pre.2 r near_A

pub overflow_sub-z : goal.overflow_sub-z
overflow_sub-z c = (up c.args.d c.args.k c.requires).0

pub overflow_sub-t : goal.overflow_sub-t
overflow_sub-t c = omega (arith, (up c.args.d c.args.k c.requires).1)

pub overflow_add-a : goal.overflow_add-a
overflow_add-a c = omega (arith, (up c.args.d c.args.k c.requires).1)

pub overflow_add-a-2 : goal.overflow_add-a-2
overflow_add-a-2 c = omega (arith, (up c.args.d c.args.k c.requires).1)

pub overflow_cast-a-2 : goal.overflow_cast-a-2
overflow_cast-a-2 c = omega (arith, (up c.args.d c.args.k c.requires).1)

pub overflow_shl-a : goal.overflow_shl-a
overflow_shl-a c = omega (arith, (up c.args.d c.args.k c.requires).1)

pub near_root-c-requires : goal.near_root-c-requires
near_root-c-requires c = shifted c.args.d c.args.k c.requires

pub overflow_cast-result : goal.overflow_cast-result
overflow_cast-result c = omega (arith, high c.args.d c.args.k c.requires c.near_root-c.result c.near_root-c.ensures)

pub overflow_add-result : goal.overflow_add-result
overflow_add-result c = omega (arith, (value c.args.d c.args.k c.requires c.near_root-c.result c.near_root-c.ensures).0)

pub returns : goal.returns
returns c = value c.args.d c.args.k c.requires c.near_root-c.result c.near_root-c.ensures

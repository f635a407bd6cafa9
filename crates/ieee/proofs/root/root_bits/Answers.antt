-- `ieee::root::root_bits` meets its contract: a guess that passes the test has the digits nearest to the root, and there are no others. Assumes nothing.
use Rattle.std.proofs.Common.{◌≡◌, ℕ, ◌+◌, ◌-◌, ◌*◌, ◌/◌, ◌%◌, ◌^◌, ◌<◌, ◌≤◌, ap, ◌∙◌, subst, mod-eq_of_lt, mul-le-mul, mul-one, arith}
use lib.Ieee.{binary32, of_bits}
use Rattle.ieee.specs.Units.{wholes}
use Rattle.ieee.specs.Root.{root_wholes}
use Rattle.ieee.proofs.NearRoot.{Near}
use Rattle.ieee.proofs.Shape.{a_high, root_pattern, units_large}
use Rattle.ieee.proofs.root.root_bits.Goals as goal
use Rattle.ieee.proofs.root.root_bits.Goals.{After-wrapping_sub_u32-c}

square-fits : (c : ℕ) → c < 4294967296 → c * c ≤ 18446744065119617025
square-fits c h = mul-le-mul {n₂ = 4294967295} {m₂ = 4294967295} (omega arith) (omega arith)

-- b's digits d and its exponent, as `Shape.antt` has them: d has 24 digits, and none is missing
module _ (b : ℕ) (low : 8388608 ≤ b) (high : b < 0x7f80_0000) where
  abbrev d : ℕ
  d = b % 8388608 + 8388608

  abbrev k : ℕ
  k = b / 8388608 - 1

  abbrev t : ℕ
  t = 125 + b / 8388608

  abbrev A : ℕ
  A = d * 2 ^ (23 + t % 2)

  lo : 2 ^ 23 ≤ d * 2 ^ 0
  lo = omega (arith, mul-one d)

  hi : d * 2 ^ 0 < 2 ^ 24
  hi = omega (arith, mul-one d)

  same : 126 + k - 0 ≡ t
  same = omega arith

  A_high : A ≤ 16777215 * 16777216
  A_high = subst (λ (n : ℕ). d * 2 ^ (23 + n % 2) ≤ 16777215 * 16777216) same (a_high d k 0 lo hi (omega arith))

  kept : A % 2 ^ 64 ≡ A
  kept = mod-eq_of_lt (omega (arith, A_high))

  module _ (p c : ℕ) (back : (c + t / 2 * 8388608) % 2 ^ 32 ≡ p) (near : Near (A % 2 ^ 64) c) where
    found : (t / 2 * 8388608 + c < 0x7f80_0000) × (of_bits binary32 (t / 2 * 8388608 + c) ≡ root_wholes (d * 2 ^ k))
    found =
        subst (λ (n : ℕ). Near (d * 2 ^ (23 + n % 2)) c → (n / 2 * 8388608 + c < 0x7f80_0000) × (of_bits binary32 (n / 2 * 8388608 + c) ≡ root_wholes (d * 2 ^ k))) same
        (root_pattern d k 0 lo hi (omega arith) (omega arith) c)
        (subst (λ (n : ℕ). Near n c) kept near)

    right : (p < 0x7f80_0000) × (of_bits binary32 p ≡ root_wholes (wholes (of_bits binary32 b)))
    right =
        let e : p ≡ t / 2 * 8388608 + c = omega (arith, back, found.0) in
        (omega (arith, e, found.0), ap (of_bits binary32) e ∙ found.1 ∙ ap root_wholes (units_large b low high))

squared : (c : After-wrapping_sub_u32-c) → c.wrapping_sub_u32-c.result * c.wrapping_sub_u32-c.result ≤ 18446744065119617025
squared c = square-fits c.wrapping_sub_u32-c.result (omega arith)

pub overflow_mul-c : goal.overflow_mul-c
overflow_mul-c c = omega (arith, squared c)

pub overflow_add-a-then-b-ge8388608-2 : goal.overflow_add-a-then-b-ge8388608-2
overflow_add-a-then-b-ge8388608-2 c = omega (arith, kept c.args.b c.if-b-ge8388608.true c.requires.1, A_high c.args.b c.if-b-ge8388608.true c.requires.1)

pub overflow_mul-c-then-c-a : goal.overflow_mul-c-then-c-a
overflow_mul-c-then-c-a c = omega (arith, squared c.before)

pub overflow_add-c : goal.overflow_add-c
overflow_add-c c = omega (arith, squared c.before)

pub returns-then-a-c : goal.returns-then-a-c
returns-then-a-c c = right c.args.b c.if-b-ge8388608.true c.requires.1 c.args.p c.wrapping_sub_u32-c.result c.wrapping_sub_u32-c.ensures.value (c.if-c-a.true, c.if-a-c.true)

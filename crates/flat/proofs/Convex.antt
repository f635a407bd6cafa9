-- The mean of three depths of 32 bits, by weights of one sign that are not all 0, is of 32 bits: no cast of it loses anything.
-- A depth is u - 2 ^ 31 with u below 2 ^ 32, so the weighted sum is a difference of two natural numbers. Assumes nothing.
use mathlib.Core.Path.{◌≡◌, refl, sym, ap, ◌∙◌}
use mathlib.Core.Bool.{true}
use Prim.Native.Nat.{ℕ, zero, suc, ◌+◌, ◌*◌, ◌-◌, ◌/◌, ◌<◌, ◌≤◌}
use native.Mathlib.Nat.{div-lt_iff_lt-mul, mul-le-mul_left, not-suc-le-zero, zero-div}
use native.Mathlib.Decide.{dec_lt}
use native.Mathlib.Omega.{arith}
use borrow.Author.Tests.{ltb-true, lt-ltb}
use lib.IntN.{ℤ, pos, negsuc, neg_ℤ, ◌+ℤ◌, ◌-ℤ◌, ◌*ℤ◌, +ℤ-neg_ℤ_cancel}
use lib.Signed.{mag, quot_z, lt_z}
use mir.Syntax.{w32}
use mir.Val.{SFits}
use Rattle.laws.proofs.Ring.{ring, var, add, sub, mul, neg}
use Rattle.flat.proofs.Signs.{Signs, ups, downs}

-- ---- a depth, raised by 2 ^ 31
raised : (z : ℤ) → SFits w32 z → (u : ℕ) × (u < 4294967296) × (z ≡ pos u -ℤ pos 2147483648)
raised (pos n) f = (n + 2147483648, omega (arith, f.sfits), sym (+ℤ-neg_ℤ_cancel (pos n) (pos 2147483648)))
raised (negsuc n) f = (
  2147483648 - suc n,
  omega (arith, f.sfits),
  sym (simp (lt-ltb (2147483648 - suc n) 2147483648 (omega (arith, f.sfits))) (ap negsuc (omega (arith, f.sfits)))),
)

-- ---- the quotient of a difference
pub minus : (u v : ℕ) → v ≤ u → pos u -ℤ pos v ≡ pos (u - v)
minus u v h =
    let e : u ≡ u - v + v = omega arith in
    ap (λ (n : ℕ). pos n -ℤ pos v) e ∙ +ℤ-neg_ℤ_cancel (pos (u - v)) (pos v)

pub minus_neg : (u v : ℕ) → u ≤ v → pos u -ℤ pos v ≡ neg_ℤ (pos (v - u))
minus_neg u v h =
    let e : v ≡ v - u + u = omega arith in
    ap (λ (n : ℕ). pos u -ℤ pos n) e ∙ ring 2 (pos u, (pos (v - u), tt)) (sub (var 0) (add (var 1) (var 0))) (neg (var 1)) tt

neg_mag : (q n : ℕ) → q < suc n → 0 < n → mag (neg_ℤ (pos q)) < n
neg_mag zero n h p = p
neg_mag (suc q) n h p = omega arith

quot_neg : (d a : ℕ) → 0 < d → quot_z (neg_ℤ (pos d)) (pos a) ≡ neg_ℤ (pos (d / a))
quot_neg zero a h = absurd (not-suc-le-zero h)
quot_neg (suc d) a h = refl

below : (x k y : ℕ) → 0 < k → x < y * k → x / k < y
below x k y h p = (div-lt_iff_lt-mul h).1 p

quot_fits : (u v a : ℕ) → 0 < a → v ≡ 2147483648 * a → u ≤ 4294967295 * a → mag (quot_z (pos u -ℤ pos v) (pos a)) < 2147483648
quot_fits u v a h e b = go (dec_lt u v)
  where
    go : Dec (u < v) → mag (quot_z (pos u -ℤ pos v) (pos a)) < 2147483648
    go (yes l) = rw (minus_neg u v (omega arith), quot_neg (v - u) a (omega arith)) (neg_mag ((v - u) / a) 2147483648 (below (v - u) a 2147483649 h (omega arith)) (omega arith))
    go (no l) = rw (minus u v (omega arith)) (below (u - v) a 2147483648 h (omega arith))

-- ---- the sum, by weights that are not negative
up_sum : (a0 a1 a2 u0 u1 u2 : ℕ) (z0 z1 z2 : ℤ) → z0 ≡ pos u0 -ℤ pos 2147483648 → z1 ≡ pos u1 -ℤ pos 2147483648 → z2 ≡ pos u2 -ℤ pos 2147483648
    → pos a0 *ℤ z0 +ℤ pos a1 *ℤ z1 +ℤ pos a2 *ℤ z2 ≡ pos (a0 * u0 + a1 * u1 + a2 * u2) -ℤ pos (2147483648 * (a0 + a1 + a2))
up_sum a0 a1 a2 u0 u1 u2 z0 z1 z2 e0 e1 e2 =
    rw (e0, e1, e2)
    (ring 7 (pos a0, (pos a1, (pos a2, (pos u0, (pos u1, (pos u2, (pos 2147483648, tt)))))))
    (add (add (mul (var 0) (sub (var 3) (var 6))) (mul (var 1) (sub (var 4) (var 6)))) (mul (var 2) (sub (var 5) (var 6))))
    (sub (add (add (mul (var 0) (var 3)) (mul (var 1) (var 4))) (mul (var 2) (var 5))) (mul (var 6) (add (add (var 0) (var 1)) (var 2)))) tt)

times : (a u : ℕ) → u < 4294967296 → a * u ≤ a * 4294967295
times a u h = mul-le-mul_left a (omega arith)

up_fits : (a0 a1 a2 : ℕ) (z0 z1 z2 : ℤ) → SFits w32 z0 → SFits w32 z1 → SFits w32 z2 → 0 < a0 + a1 + a2
    → mag (quot_z (pos a0 *ℤ z0 +ℤ pos a1 *ℤ z1 +ℤ pos a2 *ℤ z2) (pos (a0 + a1 + a2))) < 2147483648
up_fits a0 a1 a2 z0 z1 z2 f0 f1 f2 some =
    let (u0, l0, e0) = raised z0 f0 in
    let (u1, l1, e1) = raised z1 f1 in
    let (u2, l2, e2) = raised z2 f2 in
    rw (up_sum a0 a1 a2 u0 u1 u2 z0 z1 z2 e0 e1 e2)
    (quot_fits (a0 * u0 + a1 * u1 + a2 * u2) (2147483648 * (a0 + a1 + a2)) (a0 + a1 + a2) some refl
    (omega (arith, times a0 u0 l0, times a1 u1 l1, times a2 u2 l2)))

-- ---- by weights that are not positive: both numbers change sign
pub quot_both : (x : ℤ) (n : ℕ) → 0 < n → quot_z (neg_ℤ x) (neg_ℤ (pos n)) ≡ quot_z x (pos n)
quot_both x zero h = absurd (not-suc-le-zero h)
quot_both (pos zero) (suc n) h = rw (zero-div (suc n)) refl
quot_both (pos (suc m)) (suc n) h = refl
quot_both (negsuc m) (suc n) h = refl

pub above : (n : ℕ) → lt_z (pos 0) (pos n) ≡ true → 0 < n
above n e = ltb-true 0 n e

pub under : (n : ℕ) → lt_z (neg_ℤ (pos n)) (pos 0) ≡ true → 0 < n
under zero e = ltb-true 0 0 e
under (suc n) e = omega arith

pub mean_mag : (area w0 w1 w2 z0 z1 z2 : ℤ) → SFits w32 z0 → SFits w32 z1 → SFits w32 z2 → area ≡ w0 +ℤ w1 +ℤ w2 → Signs area w0 w1 w2
    → mag (quot_z (w0 *ℤ z0 +ℤ w1 *ℤ z1 +ℤ w2 *ℤ z2) area) < 2147483648
mean_mag area w0 w1 w2 z0 z1 z2 f0 f1 f2 e (ups a0 a1 a2 e0 e1 e2 p) =
    let s : area ≡ pos (a0 + a1 + a2) = rw (e0, e1, e2) at e in
    rw (s, e0, e1, e2) (up_fits a0 a1 a2 z0 z1 z2 f0 f1 f2 (above (a0 + a1 + a2) (rw s at p)))
mean_mag area w0 w1 w2 z0 z1 z2 f0 f1 f2 e (downs a0 a1 a2 e0 e1 e2 p) =
    let s : area ≡ neg_ℤ (pos (a0 + a1 + a2)) =
    (rw (e0, e1, e2) at e) ∙ ring 3 (pos a0, (pos a1, (pos a2, tt))) (add (add (neg (var 0)) (neg (var 1))) (neg (var 2))) (neg (add (add (var 0) (var 1)) (var 2))) tt in
    let n : w0 *ℤ z0 +ℤ w1 *ℤ z1 +ℤ w2 *ℤ z2 ≡ neg_ℤ (pos a0 *ℤ z0 +ℤ pos a1 *ℤ z1 +ℤ pos a2 *ℤ z2) =
    rw (e0, e1, e2)
    (ring 6 (pos a0, (pos a1, (pos a2, (z0, (z1, (z2, tt))))))
    (add (add (mul (neg (var 0)) (var 3)) (mul (neg (var 1)) (var 4))) (mul (neg (var 2)) (var 5)))
    (neg (add (add (mul (var 0) (var 3)) (mul (var 1) (var 4))) (mul (var 2) (var 5)))) tt) in
    let h : 0 < a0 + a1 + a2 = under (a0 + a1 + a2) (rw s at p) in
    rw (s, n, quot_both (pos a0 *ℤ z0 +ℤ pos a1 *ℤ z1 +ℤ pos a2 *ℤ z2) (a0 + a1 + a2) h) (up_fits a0 a1 a2 z0 z1 z2 f0 f1 f2 h)

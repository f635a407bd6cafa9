-- A sum of two values of binary32 is -0.0 only if the first of them is: a sum that is not exactly 0 has one unit of 2 ^ -149 or more, and is not rounded to 0. Assumes nothing.
use mathlib.Core.Path.{◌≡◌, refl, sym, ap, ◌∙◌}
use mathlib.Core.Bool.{Bool, true, false, cond, false≢true}
use Prim.Native.Nat.{ℕ, zero, suc, ◌+◌, ◌-◌, ◌*◌, ◌/◌, ◌%◌, ◌^◌, ◌≤◌, ◌<◌, compare}
use native.Mathlib.Nat.{zero-mul, one-mul, mul-pos, mul_assoc, mul_right_comm, mul_comm, add-mul, suc-mul, mul-sub, le_of_eq, le_trans, le-div_iff_mul-le, div-div-eq-div-mul}
use native.Mathlib.Omega.{arith}
use borrow.Author.Tests.{ltb-true}
use lib.Dec.{T, ltb}
use lib.IntN.{ℤ}
use lib.Pow.{pow_pos}
use lib.Ieee.{Float, nan, inf, fin, binary32, up, down, size, odd, units, round, sum, add, fits}
use lib.Ieee.Digits.{size-lt, size_reaches}
use lib.Ieee.Exact.{HasValue, odd_sign}
use lib.Ieee.Fits.{up_pos, down_pos, round_is}
use lib.Ieee.Nearest.{nearest-ge}
use lib.Ieee.Order.{kept, drop}
use Rattle.ieee.specs.Units.{wholes}
use Rattle.ieee.proofs.Values.{exact}

-- ---- -0.0, and what is not -0.0
abbrev pub not_minus : Float → Bool
not_minus nan = true
not_minus (inf s) = true
not_minus (fin false m e) = true
not_minus (fin true zero e) = false
not_minus (fin true (suc m) e) = true

-- what has a size above 0
sized : (x : Float) (s : Bool) (a c : ℕ) → HasValue x s a c → 0 < a → T (not_minus x)
sized nan s a c h p = absurd h
sized (inf t) s a c h p = absurd h
sized (fin false m e) s a c h p = tt
sized (fin true zero e) s a c h p =
    let z : 0 * up e * c ≡ 0 = rw (zero-mul (up e), zero-mul c) in
    absurd (omega (arith, h.1, z, mul-pos p (down_pos e)))
sized (fin true (suc m) e) s a c h p = tt

odd_plus : (d q k l : ℕ) → T (not_minus (odd d false q k l))
unfolding odd
odd_plus d zero k l = tt
odd_plus d (suc q) k l = tt

units_not : (s : Bool) (q k : ℕ) → (s ≡ true → 0 < q) → T (not_minus (units binary32 s q k))
unfolding units
units_not s q k h = go (ltb (q * 2 ^ k) (2 ^ 277)) s h
  where
    go : (b s : Bool) → (s ≡ true → 0 < q) → T (not_minus (cond b (odd 25 s q k 149) (inf s)))
    go true true h = sized (odd 25 true q k 149) true (q * 2 ^ k) (2 ^ 149) (odd_sign 25 true q k 149) (mul-pos (h refl) (pow_pos k))
    go true false h = odd_plus 25 q k 149
    go false s h = tt

-- a number of w units keeps its first digit
some : (w z : ℕ) → 0 < w → w < 2 ^ z → 0 < z
some w zero p h = absurd (omega (arith, p, h))
some w (suc z) p h = omega arith

first-kept : (w : ℕ) → 0 < w → 0 < w / 2 ^ (size w - 24)
first-kept w p =
    let z : size w - 24 < size w = omega (arith, some w (size w) p (size-lt w)) in
    (le-div_iff_mul-le (pow_pos (size w - 24))).1 (le_trans (le_of_eq (one-mul (2 ^ (size w - 24)))) (size_reaches w (size w - 24) z))

kept_some : (n c : ℕ) → 0 < c → c ≤ n → 0 < kept 24 n c
kept_some n c C h =
    let w : 0 < n / c = (le-div_iff_mul-le C).1 (le_trans (le_of_eq (one-mul c)) h) in
    let u = c * 2 ^ drop 24 n c in
    let a : 0 < n / u = rw div-div-eq-div-mul at (first-kept (n / c) w) in
    le_trans a (nearest-ge (n / u) (compare (n % u * 2) u))

-- a fraction of one unit or more, rounded; and one with the sign clear
pub round_not : (s : Bool) (num c : ℕ) → 0 < c → (s ≡ true → c ≤ num * 2 ^ 149) → T (not_minus (round binary32 s num c))
round_not s num c C h = rw (round_is binary32 s num c) (units_not s (kept 24 (num * 2 ^ 149) c) (drop 24 (num * 2 ^ 149) c) (λ e. kept_some (num * 2 ^ 149) c C (h e)))

-- ---- a sum of two numbers of whole units
-- what is above 0 and is w units of 1 / p is one unit or more
one_unit : (num c w p : ℕ) → 0 < num → 0 < p → num * p ≡ w * c → c ≤ num * p
one_unit num c zero p N P h = absurd (omega (arith, mul-pos N P, h, zero-mul c))
one_unit num c (suc w) p N P h = omega (arith, h, suc-mul w c)

sub_mul : (a b k : ℕ) → (a - b) * k ≡ a * k - b * k
sub_mul a b k = mul_comm (a - b) k ∙ mul-sub k a b ∙ rw (mul_comm k a, mul_comm k b)

module _ (a b c v w p : ℕ) (P : 0 < p) (A : a * p ≡ v * c) (B : b * p ≡ w * c) where
  both : 0 < a → c ≤ (a + b) * p
  both h = one_unit (a + b) c (v + w) p (omega arith) P (add-mul a b p ∙ rw (A, B) (sym (add-mul v w c)))

  first-less : b < a → c ≤ (a - b) * p
  first-less h = one_unit (a - b) c (v - w) p (omega arith) P (sub_mul a b p ∙ rw (A, B) (sym (sub_mul v w c)))

sum_not : (s t : Bool) (a b c v w : ℕ) → 0 < c → a * 2 ^ 149 ≡ v * c → b * 2 ^ 149 ≡ w * c → (s ≡ true → 0 < a) → T (not_minus (sum binary32 s a t b c))
unfolding sum
sum_not false false a b c v w C A B h = round_not false (a + b) c C (λ e. absurd (false≢true e))
sum_not true true a b c v w C A B h = round_not true (a + b) c C (λ e. both a b c v w (2 ^ 149) (pow_pos 149) A B (h refl))
sum_not false true a b c v w C A B h = go (ltb a b) (ltb-true a b)
  where
    go : (k : Bool) → (k ≡ true → a < b) → T (not_minus (cond k (round binary32 true (b - a) c) (round binary32 false (a - b) c)))
    go true l = round_not true (b - a) c C (λ e. first-less b a c w v (2 ^ 149) (pow_pos 149) B A (l refl))
    go false l = round_not false (a - b) c C (λ e. absurd (false≢true e))
sum_not true false a b c v w C A B h = go (ltb a b)
  where
    go : (k : Bool) → T (not_minus (cond k (round binary32 false (b - a) c) (round binary32 (ltb b a) (a - b) c)))
    go true = round_not false (b - a) c C (λ e. absurd (false≢true e))
    go false = round_not (ltb b a) (a - b) c C (λ e. first-less a b c v w (2 ^ 149) (pow_pos 149) A B (ltb-true b a e))

units_of : (s : Bool) (m : ℕ) (e : ℤ) (k : ℕ) → T (fits binary32 (fin s m e)) → m * up e * k * 2 ^ 149 ≡ wholes (fin s m e) * (down e * k)
units_of s m e k t = mul_right_comm (m * up e) k (2 ^ 149) ∙ ap (λ (x : ℕ). x * k) (exact s m e t) ∙ mul_assoc (wholes (fin s m e)) (down e) k

not_none : (s : Bool) (m : ℕ) (e d : ℤ) → T (not_minus (fin s m e)) → s ≡ true → 0 < m * up e * down d
not_none false m e d h k = absurd (false≢true k)
not_none true zero e d h k = absurd h
not_none true (suc m) e d h k = mul-pos (mul-pos {m = suc m} (omega arith) (up_pos e)) (down_pos d)

-- so what is added to a number that is not -0.0 does not make it -0.0
pub add_not : (x y : Float) → T (fits binary32 x) → T (fits binary32 y) → T (not_minus x) → T (not_minus (add binary32 x y))
unfolding add
add_not nan y p q h = tt
add_not (inf s) nan p q h = tt
add_not (inf true) (inf true) p q h = tt
add_not (inf true) (inf false) p q h = tt
add_not (inf false) (inf true) p q h = tt
add_not (inf false) (inf false) p q h = tt
add_not (inf s) (fin t n d) p q h = tt
add_not (fin s m e) nan p q h = tt
add_not (fin s m e) (inf t) p q h = tt
add_not (fin s m e) (fin t n d) p q h =
    sum_not s t (m * up e * down d) (n * up d * down e) (down e * down d) (wholes (fin s m e)) (wholes (fin t n d)) (mul-pos (down_pos e) (down_pos d))
    (units_of s m e (down d) p)
    (units_of t n d (down e) q ∙ ap (λ (x : ℕ). wholes (fin t n d) * x) (mul_comm (down d) (down e)))
    (not_none s m e d h)

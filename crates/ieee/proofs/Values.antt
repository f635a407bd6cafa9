-- A value of a format is known by its number. Rounding a value of binary32 gives it back, and adding it to -0.0 too: so a sum that starts from -0.0 is the sum that starts from its first term.
-- Assumes nothing.
use Rattle.std.proofs.Common.{◌≡◌, ℕ, zero, suc, ◌+◌, ◌-◌, ◌*◌, ◌/◌, ◌%◌, ◌^◌, ◌<◌, ◌≤◌, Bool, true, false, cond, ◌&&◌, T, eqb, ltb, leb, ℤ, pos, negsuc, sym, refl, ap, ◌∙◌, le_of_eq, lt_of_lt_of_le, le_of_suc-le-suc, mul_assoc, mul-le-mul, le_antisymm, mul-lt-mul_of_pos_right, one-mul, lt_of_not-le, zero-mul, mul-one, mul_right_comm, not-le_of_lt, le_of_mul-le-mul_right, arith, leb→le, pow_pos, pow_mono, pow-add, ltb-false, ltb-true, le-ltb}
use native.Mathlib.Nat.{div-eq_of_eq-mul_left}
use lib.Pow.{pow-lt}
use lib.Ieee.{Float, nan, inf, fin, Format, binary32, prec, low, hid, top, up, down, size, add, round, to_bits, of_bits, fits}
use lib.Ieee.Bits.{of_bits-to_bits}
use lib.Ieee.Exact.{HasValue, round_exact}
use lib.Ieee.Fits.{and_l, and_r, round-fits, down_pos}
use lib.Ieee.Nearest.{div_same}
use Rattle.ieee.specs.Units.{wholes}
use Rattle.ieee.proofs.Nearest.{grid}

-- ---- two values of a format with one sign and one number a / c
cancel : (a b c : ℕ) → 0 < c → a * c ≡ b * c → a ≡ b
cancel a b c C h = le_antisymm (le_of_mul-le-mul_right (le_of_eq h) C) (le_of_mul-le-mul_right (le_of_eq (sym h)) C)

swap : (x d c : ℕ) → x * d * c ≡ x * c * d
swap x d c = mul_right_comm x d c

same_units : (f : Format) (m l : ℕ) (e g : ℤ) (a c : ℕ) → 0 < c → m * up e * c ≡ a * down e → l * up g * c ≡ a * down g → m * up e * 2 ^ low f / down e ≡ l * up g * 2 ^ low f / down g
same_units f m l e g a c C h k =
    let i : m * up e * down g ≡ l * up g * down e =
    cancel (m * up e * down g) (l * up g * down e) c C
    (swap (m * up e) (down g) c ∙ ap (λ (x : ℕ). x * down g) h ∙ swap a (down e) (down g) ∙ ap (λ (x : ℕ). x * down e) (sym k) ∙ swap (l * up g) c (down e)) in
    div_same (m * up e * 2 ^ low f) (down e) (l * up g * 2 ^ low f) (down g) (down_pos e) (down_pos g)
    (swap (m * up e) (2 ^ low f) (down g) ∙ ap (λ (x : ℕ). x * 2 ^ low f) i ∙ swap (l * up g) (down e) (2 ^ low f))

-- `to_bits`, from the sign and the units on
abbrev bits : Format → Bool → ℕ → ℕ
bits f b n = cond b (top f) 0 + (size n - prec f) * hid f + n / 2 ^ (size n - prec f)

pub same_number : (f : Format) (x y : Float) (s : Bool) (a c : ℕ) → 0 < c → HasValue x s a c → HasValue y s a c → T (fits f x) → T (fits f y) → x ≡ y
unfolding to_bits
same_number f nan y s a c C h k p q = absurd h
same_number f (inf t) y s a c C h k p q = absurd h
same_number f (fin t m e) nan s a c C h k p q = absurd k
same_number f (fin t m e) (inf u) s a c C h k p q = absurd k
same_number f (fin t m e) (fin u l g) s a c C h k p q =
    sym (of_bits-to_bits f (fin t m e) p)
    ∙ ap (λ (b : Bool). of_bits f (bits f b (m * up e * 2 ^ low f / down e))) (h.0 ∙ sym k.0)
    ∙ ap (λ (n : ℕ). of_bits f (bits f u n)) (same_units f m l e g a c C h.1 k.1)
    ∙ of_bits-to_bits f (fin u l g) q

-- ---- a value of binary32 is its units exactly
div_back : (x q d : ℕ) → 0 < d → x ≡ q * d → x ≡ x / d * d
div_back x q d D h = h ∙ ap (λ (y : ℕ). y * d) (sym (div-eq_of_eq-mul_left D h))

exact_at : (m : ℕ) (e : ℤ) → down e ≤ 2 ^ 149 → m * up e * 2 ^ 149 ≡ m * up e * 2 ^ 149 / down e * down e
exact_at m (pos k) h = div_back (m * 2 ^ k * 2 ^ 149) (m * 2 ^ k * 2 ^ 149) 1 (omega arith) (sym (mul-one (m * 2 ^ k * 2 ^ 149)))
exact_at m (negsuc k) h =
    let j = 149 - suc k in
    let l : suc k ≤ 149 = le_of_suc-le-suc (lt_of_not-le (λ (g : 150 ≤ suc k). not-le_of_lt (pow-lt {i = 149} {j = suc k} g) h)) in
    let e : 149 ≡ j + suc k = omega arith in
    div_back (m * 1 * 2 ^ 149) (m * 1 * 2 ^ j) (2 ^ suc k) (pow_pos (suc k)) (ap (λ (x : ℕ). m * 1 * 2 ^ x) e ∙ ap (λ (x : ℕ). m * 1 * x) (pow-add 2 j (suc k)) ∙ sym (mul_assoc (m * 1) (2 ^ j) (2 ^ suc k)))

pub exact : (s : Bool) (m : ℕ) (e : ℤ) → T (fits binary32 (fin s m e)) → m * up e * 2 ^ 149 ≡ wholes (fin s m e) * down e
unfolding wholes fits
exact s zero e t = div_back (0 * up e * 2 ^ 149) 0 (down e) (down_pos e) (ap (λ (x : ℕ). x * 2 ^ 149) (zero-mul (up e)) ∙ zero-mul (2 ^ 149) ∙ sym (zero-mul (down e)))
exact s (suc m) e t =
    let odd-m = eqb (suc m % 2) 1 in
    let few = ltb (suc m) 16777216 in
    let deep = leb (down e) (2 ^ 149) in
    exact_at (suc m) e (leb→le (down e) (2 ^ 149) (and_r (odd-m && few) deep (and_l (odd-m && few && deep) (ltb (suc m * up e) (2 ^ 128 * down e)) t)))

-- ---- rounding a fraction that a value is gives the value
pub round_self : (s : Bool) (n : ℕ) (d : ℤ) (num den : ℕ) → T (fits binary32 (fin s n d)) → 0 < den → num * down d ≡ n * up d * den → round binary32 s num den ≡ fin s n d
round_self s n d num den t D h =
    let g = grid (fin s n d) t in
    let w = g.0 * 2 ^ g.1 in
    let u : num * 2 ^ 149 ≡ w * den =
    cancel (num * 2 ^ 149) (w * den) (down d) (down_pos d)
    (swap num (2 ^ 149) (down d) ∙ ap (λ (x : ℕ). x * 2 ^ 149) h ∙ swap (n * up d) den (2 ^ 149) ∙ ap (λ (x : ℕ). x * den) (exact s n d t ∙ ap (λ (x : ℕ). x * down d) g.2) ∙ swap w (down d) den) in
    let small : w < 2 ^ 277 = lt_of_lt_of_le (mul-lt-mul_of_pos_right g.3 (pow_pos g.1)) (mul-le-mul {n₂ = 16777216} {m₂ = 2 ^ 253} (omega arith) (pow_mono (le_of_suc-le-suc g.4))) in
    same_number binary32 (round binary32 s num den) (fin s n d) s num den D (round_exact binary32 s num den g.0 g.1 D g.3 small u) (refl, sym h) (round-fits binary32 s num den) t

-- ---- a sum from -0.0
abbrev pub minus-zero : Float
minus-zero = fin true 0 (pos 0)

-- the parts of the sum with n * 2 ^ d: 0, n * up d and the denominator, as `add` writes them
module _ (n : ℕ) (d : ℤ) where
  abbrev a : ℕ
  a = 0 * down d

  abbrev b : ℕ
  b = n * up d * 1

  abbrev c : ℕ
  c = 1 * down d

  b_is : b ≡ n * up d
  b_is = mul-one (n * up d)

  C : 0 < c
  C = omega (arith, down_pos d)

  -- a fraction of n * up d by the denominator is n * 2 ^ d
  fraction : (num : ℕ) → num ≡ n * up d → num * down d ≡ n * up d * c
  fraction num h = ap (λ (x : ℕ). x * down d) h ∙ ap (λ (x : ℕ). n * up d * x) (sym (one-mul (down d)))

  plus_zero : (test : Bool) → (test ≡ true → a < b) → (test ≡ false → b ≤ a) → T (fits binary32 (fin false n d)) → cond test (round binary32 false (b - a) c) (round binary32 (ltb b a) (a - b) c) ≡ fin false n d
  plus_zero true f g t = round_self false n d (b - a) c t C (fraction (b - a) (omega (arith, b_is, zero-mul (down d))))
  plus_zero false f g t =
      let z : n * up d ≡ 0 = omega (arith, g refl, b_is, zero-mul (down d)) in
      let l : a ≤ b = omega (arith, zero-mul (down d)) in
      ap (λ (s : Bool). round binary32 s (a - b) c) (le-ltb b a l) ∙ round_self false n d (a - b) c t C (fraction (a - b) (omega (arith, zero-mul (down d))))

pub from-minus-zero : (x : Float) → T (fits binary32 x) → add binary32 minus-zero x ≡ x
unfolding add
from-minus-zero nan t = refl
from-minus-zero (inf s) t = refl
from-minus-zero (fin true n d) t = round_self true n d (a n d + b n d) (c n d) t (C n d) (fraction n d (a n d + b n d) (omega (arith, b_is n d, zero-mul (down d))))
from-minus-zero (fin false n d) t = plus_zero n d (ltb (a n d) (b n d)) (ltb-true (a n d) (b n d)) (ltb-false (a n d) (b n d)) t

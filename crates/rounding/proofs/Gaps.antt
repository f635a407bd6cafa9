-- How the values of a format lie, in units of its smallest one: v's digits stop at 2 ^ `lost` units, and the next value is that much above v. Assumes nothing.
use mathlib.Core.Path.{◌≡◌, refl, sym, ap, subst, ◌∙◌}
use mathlib.Core.Logic.{◌⊎◌, inl, inr}
use Prim.Native.Nat.{ℕ, suc, ◌+◌, ◌-◌, ◌*◌, ◌/◌, ◌%◌, ◌^◌, ◌≤◌, ◌<◌}
use native.Mathlib.Nat.{le_trans, le_step, le_of_eq, lt_of_lt_of_le, lt_of_le_of_lt, lt_of_not-le, le_of_lt, le_refl, eq-or-lt_of_le, two-pow-succ, not-le_of_lt, lt_of_mul-lt-mul_right, eq-zero-or-pos, mul_assoc, mul-le-mul_right, le-div_iff_mul-le}
use native.Mathlib.Omega.{arith}
use lib.Pow.{pow-add, pow_pos, pow_mono, pow-lt, shl_lt, shl-shr}
use lib.Ieee.{Format, prec, emax, size}
use lib.Ieee.Digits.{size-lt, size-le, size_reaches, back}
use lib.Ieee.Fits.{two, kept-lt}
use Rattle.rounding.specs.Rounding.{Held, last_digit}

pub split : (d j i : ℕ) → i ≤ j → d * 2 ^ j ≡ d * 2 ^ (j - i) * 2 ^ i
split d j i h = ap (λ (x : ℕ). d * 2 ^ x) (sym (back j i h)) ∙ ap (λ (x : ℕ). d * x) (pow-add 2 (j - i) i) ∙ sym (mul_assoc d (2 ^ (j - i)) (2 ^ i))

-- ---- how many digits of v a format of p digits has no room for
abbrev pub lost : ℕ → ℕ → ℕ
lost p v = size v - p

size_mono : (a b : ℕ) → a ≤ b → size a ≤ size b
size_mono a b h = size-le a (size b) (lt_of_le_of_lt h (size-lt b))

fewer : (x y p : ℕ) → x ≤ y → x - p ≤ y - p
fewer x y p h = omega arith

pub size-gt : (v j : ℕ) → 2 ^ j ≤ v → j < size v
size-gt v j h = lt_of_not-le (λ (g : size v ≤ j). not-le_of_lt (lt_of_lt_of_le (size-lt v) (pow_mono g)) h)

-- if there are such digits, p digits are before them
pub leading : (p v : ℕ) → 0 < p → 0 < lost p v → 2 ^ (p - 1) * 2 ^ lost p v ≤ v
leading p v P h = le_trans (le_of_eq (sym (pow-add 2 (p - 1) (lost p v)))) (size_reaches v (p - 1 + lost p v) (omega arith))

-- q * 2 ^ k with q of p digits, or of fewer and k = 0, loses k digits
pub lost_is : (p q k : ℕ) → 0 < p → q < 2 ^ p → (0 < k → 2 ^ (p - 1) ≤ q) → lost p (q * 2 ^ k) ≡ k
lost_is p q k P h l = go (eq-zero-or-pos k)
  where
    most : size (q * 2 ^ k) ≤ p + k
    most = size-le (q * 2 ^ k) (p + k) (shl_lt p k h)

    go : (k ≡ 0) ⊎ (0 < k) → lost p (q * 2 ^ k) ≡ k
    go (inl z) = omega (arith, most)
    go (inr g) =
        omega (arith, most, size-gt (q * 2 ^ k) (p - 1 + k) (le_trans (le_of_eq (pow-add 2 (p - 1) k)) (mul-le-mul_right (2 ^ k) (l g))))

-- ---- the last digit that the format keeps of q * 2 ^ k
pub positive : (f : Format) → 0 < prec f
positive f = omega (arith, two f)

pub twice : (p : ℕ) → 0 < p → 2 ^ p ≡ 2 ^ (p - 1) + 2 ^ (p - 1)
twice p P =
    let e : p ≡ suc (p - 1) = omega arith in
    ap (λ (x : ℕ). 2 ^ x) e ∙ two-pow-succ (p - 1)

last_is : (f : Format) (q k : ℕ) → q < 2 ^ prec f → (0 < k → 2 ^ (prec f - 1) ≤ q) → last_digit f (q * 2 ^ k) ≡ q % 2
last_is f q k h l = ap (λ (j : ℕ). q * 2 ^ k / 2 ^ j % 2) (lost_is (prec f) q k (positive f) h l) ∙ ap (λ (x : ℕ). x % 2) (shl-shr q k)

-- a q of 2 ^ p is one digit more, and its last digit goes
pub carry : (p k : ℕ) → 0 < p → 2 ^ p * 2 ^ k ≡ 2 ^ (p - 1) * 2 ^ suc k
carry p k P =
    let e : p + k ≡ p - 1 + suc k = omega arith in
    sym (pow-add 2 p k) ∙ ap (λ (x : ℕ). 2 ^ x) e ∙ pow-add 2 (p - 1) (suc k)

pub last_even : (f : Format) (q k : ℕ) → q ≤ 2 ^ prec f → (0 < k → 2 ^ (prec f - 1) ≤ q) → q % 2 ≡ 0 → last_digit f (q * 2 ^ k) ≡ 0
last_even f q k h l e = go (eq-or-lt_of_le h)
  where
    p : ℕ
    p = prec f

    halved : 2 ^ (p - 1) % 2 ≡ 0
    halved = omega (arith, twice (p - 1) (omega (arith, two f)))

    go : (q ≡ 2 ^ p) ⊎ (q < 2 ^ p) → last_digit f (q * 2 ^ k) ≡ 0
    go (inr g) = last_is f q k g l ∙ e
    go (inl g) =
        ap (last_digit f) (ap (λ (x : ℕ). x * 2 ^ k) g ∙ carry p k (positive f))
        ∙ last_is f (2 ^ (p - 1)) (suc k) (pow-lt (omega (arith, positive f))) (λ t. le_refl (2 ^ (p - 1)))
        ∙ halved

-- the digits that the format keeps of v
abbrev pub top : Format → ℕ → ℕ
top f v = v / 2 ^ lost (prec f) v

-- ---- a value of the format is a multiple of 2 ^ i for every i that is no more than the digits it loses, and loses few enough
module _ (f : Format) (v : ℕ) (h : Held f v) where
  lost_le : lost (prec f) v ≤ h.shift
  lost_le = omega (arith, size-le v (prec f + h.shift) (subst (λ (x : ℕ). x < 2 ^ (prec f + h.shift)) (sym h.is) (shl_lt (prec f) h.shift h.few)))

  pub lost_range : lost (prec f) v < 2 * emax f
  lost_range = lt_of_le_of_lt lost_le h.in_range

  pub multiple : (i : ℕ) → i ≤ lost (prec f) v → (c : ℕ) × (v ≡ c * 2 ^ i)
  multiple i l = (h.digits * 2 ^ (h.shift - i), h.is ∙ split h.digits h.shift i (le_trans l lost_le))

  pub top_is : v ≡ top f v * 2 ^ lost (prec f) v
  top_is =
      let k = lost (prec f) v in
      let m = multiple k (omega arith) in
      m.1 ∙ ap (λ (x : ℕ). x * 2 ^ k) (sym (ap (λ (x : ℕ). x / 2 ^ k) m.1 ∙ shl-shr m.0 k))

  pub top_ge : 0 < prec f → 0 < lost (prec f) v → 2 ^ (prec f - 1) ≤ top f v
  top_ge P g = (le-div_iff_mul-le (pow_pos (lost (prec f) v))).1 (leading (prec f) v P g)

module _ (f : Format) (v : ℕ) (h : Held f v) where
  -- the next value of the format is 2 ^ lost units away at least
  pub next : (w : ℕ) → Held f w → v < w → suc (top f v) * 2 ^ lost (prec f) v ≤ w
  next w g l =
      let k = lost (prec f) v in
      let i : k ≤ lost (prec f) w = fewer (size v) (size w) (prec f) (size_mono v w (le_of_lt l)) in
      let c = multiple f w g k i in
      le_trans (mul-le-mul_right (2 ^ k) (lt_of_mul-lt-mul_right (2 ^ k) (subst (λ (x : ℕ). x < c.0 * 2 ^ k) (top_is f v h) (subst (λ (x : ℕ). v < x) c.1 l)))) (le_of_eq (sym c.1))

  -- if v's last digit is even, the number 2 ^ lost units above v is a value of the format, and its last digit is odd
  above_lt : last_digit f v ≡ 0 → suc (top f v) < 2 ^ prec f
  above_lt e = omega (arith, kept-lt (prec f) v, twice (prec f) (positive f))

  pub above-held : last_digit f v ≡ 0 → Held f (suc (top f v) * 2 ^ lost (prec f) v)
  above-held e = record { digits = suc (top f v); shift = lost (prec f) v; few = above_lt e; in_range = lost_range f v h; is = refl }

  pub above_odd : last_digit f v ≡ 0 → last_digit f (suc (top f v) * 2 ^ lost (prec f) v) ≡ 1
  above_odd e = last_is f (suc (top f v)) (lost (prec f) v) (above_lt e) (λ g. le_step (top_ge f v h (positive f) g)) ∙ odd_next
    where
      odd_next : suc (top f v) % 2 ≡ 1
      odd_next = omega arith

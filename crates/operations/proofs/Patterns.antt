-- What number a bit pattern of binary32 stands for (IEEE 754-2019, 3.4): its size in units of 2 ^ -149, the sign's bit, the infinities and the NaNs; and the sign's bit of a value's pattern.
-- That a pattern reads back what was written is `value_back` and `word_back` of crate ieee's proofs/Patterns.antt. Assumes nothing.
use mathlib.Core.Path.{◌≡◌, refl, sym, ap, subst, ◌∙◌}
use mathlib.Core.Bool.{Bool, true, false, cond, not}
use Prim.Native.Nat.{ℕ, zero, suc, ◌+◌, ◌-◌, ◌*◌, ◌/◌, ◌%◌, ◌^◌, ◌≤◌, ◌<◌}
use native.Mathlib.Nat.{mul-one}
use native.Mathlib.Decide.{dec_lt}
use native.Mathlib.Omega.{arith}
use borrow.Author.Tests.{lt-ltb, le-ltb, le-leb, lt-leb}
use lib.Dec.{T, leb, ltb, eqb}
use lib.IntN.{ℤ}
use lib.Ieee.{Float, nan, inf, fin, binary32, up, down, size, odd, neg, of_fields, of_bits, to_bits, is_nan, fits}
use lib.Ieee.Bits.{nan_bits_is, nan_bits_above, to_bits-lt}
use lib.Ieee.Exact.{HasValue, odd_sign}
use lib.Ieee.Fits.{neg-fits}
use lib.Ieee.Scale.{finite}
use Rattle.ieee.proofs.Compare.{differ}
use Rattle.ieee.proofs.Shape.{positive, pattern, pattern_small}
use Rattle.operations.specs.Tests.{SignIs}

-- ---- the numbers that are not negative: subnormal, and normal
pub value_small : (b : ℕ) → b < 0x80_0000 → HasValue (of_bits binary32 b) false b (2 ^ 149)
value_small b h =
    subst (λ (x : Float). HasValue x false b (2 ^ 149)) (sym (pattern_small b h))
    (subst (λ (n : ℕ). HasValue (odd 24 false b 0 149) false n (2 ^ 149)) (mul-one b) (odd_sign 24 false b 0 149))

pub value_large : (b : ℕ) → 0x80_0000 ≤ b → b < 0x7f80_0000 → HasValue (of_bits binary32 b) false ((b % 0x80_0000 + 0x80_0000) * 2 ^ (b / 0x80_0000 - 1)) (2 ^ 149)
value_large b l h =
    let k = b / 0x80_0000 - 1 in
    let c = b % 0x80_0000 + 0x80_0000 in
    let g : k * 0x80_0000 + c ≡ b = omega arith in
    subst (λ (x : Float). HasValue x false (c * 2 ^ k) (2 ^ 149)) (sym (pattern k c (omega arith) (omega arith) (omega arith)) ∙ ap (of_bits binary32) g) (odd_sign 24 false c k 149)

-- ---- the sign's bit
odd_minus : (q k : ℕ) → odd 24 true q k 149 ≡ neg (odd 24 false q k 149)
unfolding odd neg
odd_minus zero k = refl
odd_minus (suc q) k = refl

pick_minus : (a b : Bool) (x y : Float) → x ≡ neg y → cond a (cond b (inf true) nan) x ≡ neg (cond a (cond b (inf false) nan) y)
unfolding neg
pick_minus true true x y h = refl
pick_minus true false x y h = refl
pick_minus false b x y h = h

fields_minus : (x t : ℕ) → of_fields binary32 true x t ≡ neg (of_fields binary32 false x t)
unfolding of_fields
fields_minus zero t = odd_minus t 0
fields_minus (suc x) t =
    pick_minus (eqb (suc x) 255) (eqb t 0) (odd 24 true (8388608 + t) x 149) (odd 24 false (8388608 + t) x 149) (odd_minus (8388608 + t) x)

of_bits_is : (b : ℕ) → of_bits binary32 b ≡ of_fields binary32 (leb 0x8000_0000 b) (b % 0x8000_0000 / 0x80_0000) (b % 0x80_0000)
unfolding of_bits
of_bits_is b = refl

-- with it the value is negated, a zero's and an infinity's too; a NaN stays one
pub minus_bits : (b : ℕ) → b < 0x8000_0000 → of_bits binary32 (b + 0x8000_0000) ≡ neg (of_bits binary32 b)
minus_bits b h =
    let p : (b + 0x8000_0000) % 0x8000_0000 / 0x80_0000 ≡ b / 0x80_0000 = omega arith in
    let q : (b + 0x8000_0000) % 0x80_0000 ≡ b % 0x80_0000 = omega arith in
    of_bits_is (b + 0x8000_0000)
    ∙ ap (λ (s : Bool). of_fields binary32 s ((b + 0x8000_0000) % 0x8000_0000 / 0x80_0000) ((b + 0x8000_0000) % 0x80_0000)) (le-leb 0x8000_0000 (b + 0x8000_0000) (omega arith))
    ∙ ap (λ (x : ℕ). of_fields binary32 true x ((b + 0x8000_0000) % 0x80_0000)) p
    ∙ ap (of_fields binary32 true (b / 0x80_0000)) q
    ∙ fields_minus (b / 0x80_0000) (b % 0x80_0000)
    ∙ ap neg (sym (positive b h))

neg_value : (x : Float) (a c : ℕ) → HasValue x false a c → HasValue (neg x) true a c
unfolding neg
neg_value nan a c h = absurd h
neg_value (inf s) a c h = absurd h
neg_value (fin s m e) a c h = (ap not h.0, h.1)

-- so the negative numbers have the same sizes
pub value_minus_small : (b : ℕ) → b < 0x80_0000 → HasValue (of_bits binary32 (b + 0x8000_0000)) true b (2 ^ 149)
value_minus_small b h =
    subst (λ (x : Float). HasValue x true b (2 ^ 149)) (sym (minus_bits b (omega arith))) (neg_value (of_bits binary32 b) b (2 ^ 149) (value_small b h))

pub value_minus_large : (b : ℕ) → 0x80_0000 ≤ b → b < 0x7f80_0000
    → HasValue (of_bits binary32 (b + 0x8000_0000)) true ((b % 0x80_0000 + 0x80_0000) * 2 ^ (b / 0x80_0000 - 1)) (2 ^ 149)
value_minus_large b l h =
    let n = (b % 0x80_0000 + 0x80_0000) * 2 ^ (b / 0x80_0000 - 1) in
    subst (λ (x : Float). HasValue x true n (2 ^ 149)) (sym (minus_bits b (omega arith))) (neg_value (of_bits binary32 b) n (2 ^ 149) (value_large b l h))

-- ---- infinities
pub infinity_bits : of_bits binary32 0x7f80_0000 ≡ inf false
unfolding of_bits
infinity_bits = refl

pub minus_infinity_bits : of_bits binary32 0xff80_0000 ≡ inf true
unfolding of_bits
minus_infinity_bits = refl

-- ---- NaNs: the patterns that are above the infinity's, without the sign's bit, and no others
pub nan_bits : (b : ℕ) → is_nan (of_bits binary32 b) ≡ ltb 0x7f80_0000 (b % 0x8000_0000)
nan_bits b = sym (nan_bits_is binary32 b) ∙ nan_bits_above binary32 b

only_nan : (x : Float) → is_nan x ≡ true → x ≡ nan
unfolding is_nan
only_nan nan h = refl
only_nan (inf s) h = differ (sym h)
only_nan (fin s m e) h = differ (sym h)

pub every_nan : (b : ℕ) → 0x7f80_0000 < b % 0x8000_0000 → of_bits binary32 b ≡ nan
every_nan b h = only_nan (of_bits binary32 b) (nan_bits b ∙ lt-ltb 0x7f80_0000 (b % 0x8000_0000) h)

-- ---- the finite numbers: the patterns that are below the infinity's, without the sign's bit
value_finite : (x : Float) (s : Bool) (a c : ℕ) → HasValue x s a c → finite x ≡ true
value_finite nan s a c h = absurd h
value_finite (inf t) s a c h = absurd h
value_finite (fin t m e) s a c h = refl

finite_low : (b : ℕ) → b < 0x8000_0000 → finite (of_bits binary32 b) ≡ ltb b 0x7f80_0000
finite_low b h = elim (dec_lt b 0x7f80_0000) [ yes l ↦ number l ∙ sym (lt-ltb b 0x7f80_0000 l) | no g ↦ other g ∙ sym (le-ltb b 0x7f80_0000 (omega arith)) ]
  where
    number : b < 0x7f80_0000 → finite (of_bits binary32 b) ≡ true
    number l = elim (dec_lt b 0x80_0000) [
      | yes k ↦ value_finite (of_bits binary32 b) false b (2 ^ 149) (value_small b k)
      | no k ↦ value_finite (of_bits binary32 b) false ((b % 0x80_0000 + 0x80_0000) * 2 ^ (b / 0x80_0000 - 1)) (2 ^ 149) (value_large b (omega arith) l)
    ]

    other : (b < 0x7f80_0000 → ⊥) → finite (of_bits binary32 b) ≡ false
    other g = elim (dec_lt 0x7f80_0000 b) [
      | yes k ↦ ap finite (every_nan b (omega arith))
      | no k ↦ let e : b ≡ 0x7f80_0000 = omega arith in ap (λ (n : ℕ). finite (of_bits binary32 n)) e ∙ ap finite infinity_bits
    ]

neg_finite : (x : Float) → finite (neg x) ≡ finite x
unfolding neg
neg_finite nan = refl
neg_finite (inf s) = refl
neg_finite (fin s m e) = refl

pub finite_bits : (b : ℕ) → b < 2 ^ 32 → finite (of_bits binary32 b) ≡ ltb (b % 0x8000_0000) 0x7f80_0000
finite_bits b h = elim (dec_lt b 0x8000_0000) [ yes l ↦ low l | no g ↦ high g ]
  where
    low : b < 0x8000_0000 → finite (of_bits binary32 b) ≡ ltb (b % 0x8000_0000) 0x7f80_0000
    low l = let e : b ≡ b % 0x8000_0000 = omega arith in finite_low b l ∙ ap (λ (n : ℕ). ltb n 0x7f80_0000) e

    high : (b < 0x8000_0000 → ⊥) → finite (of_bits binary32 b) ≡ ltb (b % 0x8000_0000) 0x7f80_0000
    high g =
        let r = b % 0x8000_0000 in
        let e : b ≡ r + 0x8000_0000 = omega arith in
        let l : r < 0x8000_0000 = omega arith in
        ap (λ (n : ℕ). finite (of_bits binary32 n)) e ∙ ap finite (minus_bits r l) ∙ neg_finite (of_bits binary32 r) ∙ finite_low r l

-- ---- the sign's bit of a value's pattern is set if the value is negative, and only then: -0 has it
module _ (m : ℕ) (e : ℤ) where
  abbrev n : ℕ
  n = m * up e * 2 ^ 149 / down e

  abbrev field : ℕ
  field = (size n - 24) * 8388608

  abbrev digits : ℕ
  digits = n / 2 ^ (size n - 24)

  above : T (fits binary32 (fin false m e)) → 2147483648 + field + digits < 2 * 2147483648
  unfolding to_bits neg
  above t = to_bits-lt binary32 (fin true m e) (neg-fits binary32 (fin false m e) t)

pub sign_bit : (x : Float) (s : Bool) → T (fits binary32 x) → SignIs x s → leb 0x8000_0000 (to_bits binary32 x) ≡ s
unfolding to_bits
sign_bit nan s t h = absurd h
sign_bit (inf true) s t h = h
sign_bit (inf false) s t h = h
sign_bit (fin true m e) s t h = le-leb 0x8000_0000 (0x8000_0000 + field m e + digits m e) (over (field m e) (digits m e)) ∙ h
  where
    over : (a b : ℕ) → 0x8000_0000 ≤ 0x8000_0000 + a + b
    over a b = omega arith
sign_bit (fin false m e) s t h = lt-leb 0x8000_0000 (0 + field m e + digits m e) (under (field m e) (digits m e) (above m e t)) ∙ h
  where
    under : (a b : ℕ) → 2147483648 + a + b < 2 * 2147483648 → 0 + a + b < 0x8000_0000
    under a b h = omega arith

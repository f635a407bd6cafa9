-- The root's digits and its exponent, as the code works them out, are those of the definition; and what number a bit pattern stands for. Assumes nothing.
use Rattle.std.proofs.Common.{◌≡◌, ℕ, zero, suc, ◌+◌, ◌-◌, ◌*◌, ◌/◌, ◌%◌, ◌^◌, ◌<◌, ◌≤◌, Bool, false, cond, T, eqb, leb, sym, ap, ◌∙◌, le_trans, le_of_eq, lt_of_lt_of_le, lt_of_le_of_lt, add_assoc, mul-le-mul_right, mod-eq_of_lt, mul_assoc, mul_comm, mul-le-mul, le_antisymm, lt_of_mul-lt-mul_right, mul-lt-mul_of_pos_right, lt_of_not-le, mul-suc, not-le_of_lt, le_of_mul-le-mul_right, mul-div_cancel, mul_left_comm, arith, eqb→eq, leb→le, pow_pos, pow_mono, pow-add}
use native.Mathlib.Nat.{div-eq_of_lt}
use lib.Dec.{not_T}
use lib.Pow.{shl-shr}
use lib.Count.{count_leading_zeros, leading_top}
use lib.Ieee.{Float, nan, inf, fin, binary32, down, size, odd, of_bits, of_fields}
use lib.Ieee.Bits.{is_false, cond_no}
use lib.Ieee.Digits.{size-lt, size-le}
use lib.Ieee.Exact.{HasValue, odd_sign}
use lib.Ieee.Fits.{down_pos}
use Rattle.ieee.specs.Units.{wholes}
use Rattle.ieee.specs.Root.{root_near, root_wholes}
use Rattle.ieee.proofs.NearRoot.{Near, near-is}

-- ---- how many digits
size_is : (n j : ℕ) → 2 ^ j ≤ n → n < 2 ^ suc j → size n ≡ suc j
size_is n j h k = le_antisymm (size-le n (suc j) k) (lt_of_not-le (λ (g : size n ≤ j). not-le_of_lt (size-lt n) (le_trans (pow_mono g) h)))

regroup : (d p q r : ℕ) → d * p * q * r ≡ d * r * (p * q)
regroup d p q r = simp (mul_assoc, mul_comm, mul_left_comm)

-- how far up: all but 8 of the leading zeros that a u32 has
pub lead : (d : ℕ) → 0 < d → d < 2 ^ 24 → (8 ≤ count_leading_zeros 32 d) × (count_leading_zeros 32 d - 8 ≤ 23) × (2 ^ 23 ≤ d * 2 ^ (count_leading_zeros 32 d - 8)) × (d * 2 ^ (count_leading_zeros 32 d - 8) < 2 ^ 24)
lead d p h =
    let l = count_leading_zeros 32 d in
    let t = leading_top 32 d p (omega arith) in
    let j = t.0 in
    let e = t.1 in
    let jj : j < 24 = lt_of_not-le (λ (g : 24 ≤ j). not-le_of_lt h (le_trans (pow_mono g) t.2)) in
    let s : j + (l - 8) ≡ 23 = omega arith in
    let u : suc j + (l - 8) ≡ 24 = omega arith in
    let lo : 2 ^ j * 2 ^ (l - 8) ≡ 2 ^ 23 = sym (pow-add 2 j (l - 8)) ∙ ap (λ (n : ℕ). 2 ^ n) s in
    let hi : 2 ^ suc j * 2 ^ (l - 8) ≡ 2 ^ 24 = sym (pow-add 2 (suc j) (l - 8)) ∙ ap (λ (n : ℕ). 2 ^ n) u in (
      omega arith,
      omega arith,
      le_trans (le_of_eq (sym lo)) (mul-le-mul_right (2 ^ (l - 8)) t.2),
      lt_of_lt_of_le (mul-lt-mul_of_pos_right t.3 (pow_pos (l - 8))) (le_of_eq hi),
    )

-- d is moved up by z places to 24 digits; k more, and the 149 of the definition, are left
module _ (d k z : ℕ) (lo : 2 ^ 23 ≤ d * 2 ^ z) (hi : d * 2 ^ z < 2 ^ 24) (zz : z ≤ 23) where
  abbrev pub v : ℕ
  v = d * 2 ^ k * 2 ^ 149

  -- what is left, made even by 23
  abbrev pub t : ℕ
  t = 126 + k - z

  abbrev pub a : ℕ
  a = d * 2 ^ (z + 23 + t % 2)

  a_is : a ≡ d * 2 ^ z * 2 ^ (23 + t % 2)
  a_is = ap (λ (n : ℕ). d * 2 ^ n) (add_assoc z 23 (t % 2)) ∙ ap (λ (n : ℕ). d * n) (pow-add 2 z (23 + t % 2)) ∙ sym (mul_assoc d (2 ^ z) (2 ^ (23 + t % 2)))

  pub a_low : 2 ^ 46 ≤ a
  a_low = le_trans (mul-le-mul lo (pow_mono {i = 23} {j = 23 + t % 2} (omega arith))) (le_of_eq (sym a_is))

  pub a_high : a ≤ 16777215 * 16777216
  a_high = le_trans (le_of_eq a_is) (mul-le-mul {n₂ = 16777215} (omega arith) (pow_mono {i = 23 + t % 2} {j = 24} (omega arith)))

  v_size : size v ≡ 173 + k - z
  v_size =
      let j = 172 + k - z in
      let e : 2 ^ j * 2 ^ z ≡ 2 ^ 23 * 2 ^ (k + 149) = sym (pow-add 2 j z) ∙ ap (λ (n : ℕ). 2 ^ n) (omega arith) ∙ pow-add 2 23 (k + 149) in
      let g : 2 ^ suc j * 2 ^ z ≡ 2 ^ 24 * 2 ^ (k + 149) = sym (pow-add 2 (suc j) z) ∙ ap (λ (n : ℕ). 2 ^ n) (omega arith) ∙ pow-add 2 24 (k + 149) in
      let w : v * 2 ^ z ≡ d * 2 ^ z * 2 ^ (k + 149) = regroup d (2 ^ k) (2 ^ 149) (2 ^ z) ∙ ap (λ (n : ℕ). d * 2 ^ z * n) (sym (pow-add 2 k 149)) in
      size_is v j
      (le_of_mul-le-mul_right (le_trans (le_of_eq e) (le_trans (mul-le-mul_right (2 ^ (k + 149)) lo) (le_of_eq (sym w)))) (pow_pos z))
      (lt_of_mul-lt-mul_right (2 ^ z) (lt_of_le_of_lt (le_of_eq w) (lt_of_lt_of_le (mul-lt-mul_of_pos_right hi (pow_pos (k + 149))) (le_of_eq (sym g)))))
      ∙ omega arith

  pub v_is : v ≡ a * 2 ^ (t / 2 + t / 2)
  v_is =
      mul_assoc d (2 ^ k) (2 ^ 149)
      ∙ ap (λ (n : ℕ). d * n) (sym (pow-add 2 k 149))
      ∙ ap (λ (n : ℕ). d * 2 ^ n) (omega arith)
      ∙ ap (λ (n : ℕ). d * n) (pow-add 2 (z + 23 + t % 2) (t / 2 + t / 2))
      ∙ sym (mul_assoc d (2 ^ (z + 23 + t % 2)) (2 ^ (t / 2 + t / 2)))

  -- the c that is nearest to the root of a, with half of what is left, is the root by the definition
  pub root_is : (c : ℕ) → Near a c → root_wholes (d * 2 ^ k) ≡ odd 24 false c (t / 2) 149
  unfolding root_wholes
  root_is c n =
      let e : (size v + 1) / 2 - 24 ≡ t / 2 = ap (λ (x : ℕ). (x + 1) / 2 - 24) v_size ∙ omega arith in
      let h : a < 4 ^ 24 = omega (arith, a_high) in
      let g : v / 2 ^ (t / 2 + t / 2) ≡ a = ap (λ (x : ℕ). x / 2 ^ (t / 2 + t / 2)) v_is ∙ shl-shr a (t / 2 + t / 2) in
      ap (λ (x : ℕ). odd 24 false (root_near (v / 2 ^ (x + x))) x 149) e
      ∙ ap (λ (x : ℕ). odd 24 false (root_near x) (t / 2) 149) g
      ∙ ap (λ (x : ℕ). odd 24 false x (t / 2) 149) (sym (near-is a c (omega (arith, a_low)) h n))

  -- and has 24 digits
  pub digits_low : (c : ℕ) → Near a c → 8388608 ≤ c
  digits_low c n = lt_of_not-le (λ (g : c ≤ 8388607). small g)
    where
      small : c ≤ 8388607 → ⊥
      small g = omega (arith, n.1, a_low, mul-le-mul g g)

  pub digits-high : (c : ℕ) → Near a c → c < 16777216
  digits-high zero n = omega arith
  digits-high (suc c) n = lt_of_not-le (λ (g : 16777216 ≤ suc c). large g)
    where
      large : 16777216 ≤ suc c → ⊥
      large g =
          let h : 16777216 * 16777215 ≤ suc c * c = mul-le-mul {m₁ = 16777215} g (omega arith) in
          omega (arith, n.0, a_high, h, mul-suc (suc c) c)

-- ---- bit patterns of numbers above 0: 2139095040 is 255 * 2 ^ 23, the pattern of the infinity
pub positive : (b : ℕ) → b < 2147483648 → of_bits binary32 b ≡ of_fields binary32 false (b / 8388608) (b % 8388608)
unfolding of_bits
positive b h =
    ap (λ (s : Bool). of_fields binary32 s (b % 2147483648 / 8388608) (b % 8388608)) (is_false (leb 2147483648 b) (not_T (leb 2147483648 b) (λ (u : T (leb 2147483648 b)). not-le_of_lt h (leb→le 2147483648 b u))))
    ∙ ap (λ (x : ℕ). of_fields binary32 false (x / 8388608) (b % 8388608)) (mod-eq_of_lt h)

under_ones : (t x : ℕ) → suc x < 255 → of_fields binary32 false (suc x) t ≡ odd 24 false (8388608 + t) x 149
unfolding of_fields
under_ones t x h = cond_no (eqb (suc x) 255) (cond (eqb t 0) (inf false) nan) (odd 24 false (8388608 + t) x 149) (not_T (eqb (suc x) 255) (λ (u : T (eqb (suc x) 255)). differ (eqb→eq (suc x) 255 u)))
  where
    differ : suc x ≡ 255 → ⊥
    differ e = omega arith

pub pattern : (k c : ℕ) → 8388608 ≤ c → c < 16777216 → k < 254 → of_bits binary32 (k * 8388608 + c) ≡ odd 24 false c k 149
pattern k c l h g =
    let b = k * 8388608 + c in
    positive b (omega arith)
    ∙ ap (λ (x : ℕ). of_fields binary32 false x (b % 8388608)) (omega arith)
    ∙ under_ones (b % 8388608) k (omega arith)
    ∙ ap (λ (x : ℕ). odd 24 false x k 149) (omega arith)

pub pattern_small : (b : ℕ) → b < 8388608 → of_bits binary32 b ≡ odd 24 false b 0 149
unfolding of_fields
pattern_small b h =
    positive b (omega arith)
    ∙ ap (λ (x : ℕ). of_fields binary32 false x (b % 8388608)) (div-eq_of_lt h)
    ∙ ap (λ (x : ℕ). odd 24 false x 0 149) (mod-eq_of_lt h)

-- what has a value in units of 2 ^ -149 is that many of them
pub wholes_value : (x : Float) (s : Bool) (a : ℕ) → HasValue x s a (2 ^ 149) → wholes x ≡ a
unfolding wholes
wholes_value nan s a h = absurd h
wholes_value (inf t) s a h = absurd h
wholes_value (fin t m e) s a h = ap (λ (x : ℕ). x / down e) h.1 ∙ mul-div_cancel a (down_pos e)

pub wholes_odd : (s : Bool) (q k : ℕ) → wholes (odd 24 s q k 149) ≡ q * 2 ^ k
wholes_odd s q k = wholes_value (odd 24 s q k 149) s (q * 2 ^ k) (odd_sign 24 s q k 149)

-- ---- the root's pattern, from the digits c that are nearest
module _ (d k z : ℕ) (lo : 2 ^ 23 ≤ d * 2 ^ z) (hi : d * 2 ^ z < 2 ^ 24) (zz : z ≤ 23) (kk : k < 254) where
  pub root_pattern : (c : ℕ) → Near (a d k z lo hi zz) c
      → (t d k z lo hi zz / 2 * 8388608 + c < 0x7f80_0000) × (of_bits binary32 (t d k z lo hi zz / 2 * 8388608 + c) ≡ root_wholes (d * 2 ^ k))
  root_pattern c n =
      let h = t d k z lo hi zz / 2 in
      let low = digits_low d k z lo hi zz c n in
      let high = digits-high d k z lo hi zz c n in
      let e : h < 253 = omega arith in
      (omega (arith, e, high), pattern h c low high (omega arith) ∙ sym (root_is d k z lo hi zz c n))

-- ---- the units that a pattern stands for
pub units_small : (b : ℕ) → b / 8388608 ≡ 0 → b % 8388608 * 2 ^ 0 ≡ wholes (of_bits binary32 b)
units_small b e =
    let h : b < 8388608 = omega arith in
    let g : b % 8388608 ≡ b = omega arith in
    ap (λ (x : ℕ). x * 2 ^ 0) g ∙ sym (wholes_odd _ b 0) ∙ ap wholes (sym (pattern_small b h))

pub units_large : (b : ℕ) → 8388608 ≤ b → b < 0x7f80_0000 → (b % 8388608 + 8388608) * 2 ^ (b / 8388608 - 1) ≡ wholes (of_bits binary32 b)
units_large b l h =
    let k = b / 8388608 - 1 in
    let d = b % 8388608 + 8388608 in
    let e : k * 8388608 + d ≡ b = omega arith in
    sym (wholes_odd _ d k) ∙ ap wholes (sym (pattern k d (omega arith) (omega arith) (omega arith)) ∙ ap (of_bits binary32) e)

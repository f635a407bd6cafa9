-- Rounding up, from rounding down and one comparison. Assumes nothing.
use Rattle.std.proofs.Common.{◌≡◌, ℕ, ◌+◌, ◌-◌, ◌*◌, ◌/◌, ◌^◌, ◌<◌, ◌≤◌, min, true, false, T, ℤ, pos, sym, refl, ap, ◌∙◌, subst, le_trans, lt_trans, le_of_eq, lt_of_lt_of_le, le-add_right, lt_of_le_of_lt, add-mul, le_antisymm, lt_of_mul-lt-mul_right, mul-lt-mul_of_pos_right, one-mul, lt_of_not-le, zero-mul, mul-one, mul_right_comm, div-mul-le_self, le_of_mul-le-mul_right, arith, pow_pos, ltb-false, ltb-true}
use native.Mathlib.Nat.{zero-div, lt-div-mul-add, div-eq_of_lt-le}
use native.Mathlib.Decide.{dec_le}
use lib.Ieee.{Float, nan, inf, fin, binary32, binary64, up, down, fits, lt, of_bits, of_int}
use lib.Ieee.Back.{round_whole}
use lib.Ieee.Exact.{HasValue}
use lib.Ieee.Fits.{down_pos}
use Rattle.ieee.specs.Units.{zero32, wholes}
use Rattle.ieee.proofs.Values.{exact}
use Rattle.ieee.specs.Units.{units_up}
use Rattle.ieee.specs.Casts.{cut_of, cut_up_of}
use Rattle.ieee.proofs.Compare.{differ}
use Rattle.ieee.proofs.Cuts.{whole_part}

-- ---- u units of 1 / p, of which a / d is exactly that many: rounded up
module _ (a d u p : ℕ) (D : 0 < d) (P : 0 < p) (e : a * p ≡ u * d) where
  abbrev w : ℕ
  w = a / d

  -- the next multiples of p
  next : (w + 1) * p ≡ w * p + p
  next = add-mul w 1 p ∙ ap (λ (x : ℕ). w * p + x) (one-mul p)

  next2 : (w + 1 + 1) * p ≡ w * p + p + p
  next2 = add-mul (w + 1) 1 p ∙ ap (λ (x : ℕ). (w + 1) * p + x) (one-mul p) ∙ ap (λ (x : ℕ). x + p) next

  pub whole_up : a ≤ w * d → (u + (p - 1)) / p ≡ w
  whole_up h =
      let g : a ≡ w * d = le_antisymm h (div-mul-le_self a d) in
      let k : w * p * d ≡ u * d = mul_right_comm w p d ∙ ap (λ (x : ℕ). x * p) (sym g) ∙ e in
      let i : w * p ≡ u = le_antisymm (le_of_mul-le-mul_right (le_of_eq k) D) (le_of_mul-le-mul_right (le_of_eq (sym k)) D) in
      div-eq_of_lt-le p (omega (arith, i)) (omega (arith, i, next))

  pub more_up : w * d < a → (u + (p - 1)) / p ≡ w + 1
  more_up h =
      let k : w * p < u = lt_of_mul-lt-mul_right d (lt_of_le_of_lt (le_of_eq (mul_right_comm w p d)) (lt_of_lt_of_le (mul-lt-mul_of_pos_right h P) (le_of_eq e))) in
      let g : a < (w + 1) * d = lt_of_lt_of_le (lt-div-mul-add D) (le_of_eq (sym (add-mul w 1 d ∙ ap (λ (x : ℕ). w * d + x) (one-mul d)))) in
      let i : u < (w + 1) * p = lt_of_mul-lt-mul_right d (lt_of_le_of_lt (le_of_eq (sym e)) (lt_of_lt_of_le (mul-lt-mul_of_pos_right g P) (le_of_eq (mul_right_comm (w + 1) d p)))) in
      div-eq_of_lt-le p (omega (arith, k, next)) (omega (arith, i, next, next2))

-- ---- the comparison of a whole number n, as a float y, with m * 2 ^ e
cross : (a n d b : ℕ) → a * 1 ≡ n * d → a * b ≡ n * b * d
cross a n d b h = ap (λ (x : ℕ). x * b) (sym (mul-one a) ∙ h) ∙ mul_right_comm n d b

above : (y : Float) (n m : ℕ) (e : ℤ) → HasValue y false n 1 → lt y (fin false m e) ≡ true → n * down e < m * up e
unfolding lt
above nan n m e v h = absurd v
above (inf s) n m e v h = absurd v
above (fin true a g) n m e v h = differ v.0
above (fin false a g) n m e v h = lt_of_mul-lt-mul_right (down g) (lt_of_le_of_lt (le_of_eq (sym (cross (a * up g) n (down g) (down e) v.1))) (ltb-true (a * up g * down e) (m * up e * down g) h))

not_above : (y : Float) (n m : ℕ) (e : ℤ) → HasValue y false n 1 → lt y (fin false m e) ≡ false → m * up e ≤ n * down e
unfolding lt
not_above nan n m e v h = absurd v
not_above (inf s) n m e v h = absurd v
not_above (fin true a g) n m e v h = differ v.0
not_above (fin false a g) n m e v h = le_of_mul-le-mul_right (le_trans (ltb-false (a * up g * down e) (m * up e * down g) h) (le_of_eq (cross (a * up g) n (down g) (down e) v.1))) (down_pos g)

-- a u32 as an f64
whole_float : (n : ℕ) → n < 2 ^ 32 → HasValue (of_int binary64 (pos n)) false n 1
unfolding of_int
whole_float n h = round_whole binary64 false n (omega arith)

-- ---- what `cut_up` answers, from n, which is x cut at last
-- n is the whole part w if n is below last
own : (n w last : ℕ) → n ≡ min w last → n < last → n ≡ w
own n w last c h = omega arith

module _ (m : ℕ) (e : ℤ) (t : T (fits binary32 (fin false m e))) where
  abbrev W : ℕ
  W = m * up e / down e

  up_same : m * up e ≤ W * down e → units_up (wholes (fin false m e)) ≡ W
  up_same h = whole_up (m * up e) (down e) (wholes (fin false m e)) (2 ^ 149) (down_pos e) (pow_pos 149) (exact false m e t) h

  up_next : W * down e < m * up e → units_up (wholes (fin false m e)) ≡ W + 1
  up_next h = more_up (m * up e) (down e) (wholes (fin false m e)) (2 ^ 149) (down_pos e) (pow_pos 149) (exact false m e t) h

  up_ge : W ≤ units_up (wholes (fin false m e))
  up_ge = elim (dec_le (m * up e) (W * down e)) [ yes h ↦ le_of_eq (sym (up_same h)) | no f ↦ le_trans (le-add_right W 1) (le_of_eq (sym (up_next (lt_of_not-le f)))) ]

  cut_whole : (n last : ℕ) → n ≡ cut_of (fin false m e) last → n ≡ min W last
  cut_whole n last c = c ∙ ap (λ (a : ℕ). min a last) (whole_part false m e)

step : (n w last : ℕ) → n ≡ w → n < last → n + 1 ≡ min (w + 1) last
step n w last c h = omega arith

stay : (n w last : ℕ) → n ≡ w → n < last → n ≡ min w last
stay n w last c h = omega arith

full : (n w v last : ℕ) → n ≡ min w last → last ≤ n → w ≤ v → n ≡ min v last
full n w v last c h g = omega arith

module _ (n last : ℕ) where
  -- below last, and below x
  pub up_more : (x : Float) → last < 2 ^ 32 → T (fits binary32 x) → lt zero32 x ≡ true → n ≡ cut_of x last → n < last → lt (of_int binary64 (pos n)) x ≡ true → n + 1 ≡ cut_up_of x last
  unfolding lt of_bits
  up_more nan l t p c h k = differ (sym p)
  up_more (inf true) l t p c h k = differ (sym p)
  up_more (inf false) l t p c h k = absurd (omega arith)
  up_more (fin true m e) l t p c h k = differ (sym p)
  up_more (fin false m e) l t p c h k =
      let q = own n (W m e t) last (cut_whole m e t n last c) h in
      let g = above (of_int binary64 (pos n)) n m e (whole_float n (lt_trans h l)) k in
      step n (W m e t) last q h ∙ ap (λ (a : ℕ). min a last) (sym (up_next m e t (subst (λ (a : ℕ). a * down e < m * up e) q g)))

  -- below last, and not below x
  pub up_equal : (x : Float) → last < 2 ^ 32 → T (fits binary32 x) → lt zero32 x ≡ true → n ≡ cut_of x last → n < last → lt (of_int binary64 (pos n)) x ≡ false → n ≡ cut_up_of x last
  unfolding lt of_bits
  up_equal nan l t p c h k = differ (sym p)
  up_equal (inf true) l t p c h k = differ (sym p)
  up_equal (inf false) l t p c h k = absurd (omega arith)
  up_equal (fin true m e) l t p c h k = differ (sym p)
  up_equal (fin false m e) l t p c h k =
      let q = own n (W m e t) last (cut_whole m e t n last c) h in
      let g = not_above (of_int binary64 (pos n)) n m e (whole_float n (lt_trans h l)) k in
      stay n (W m e t) last q h ∙ ap (λ (a : ℕ). min a last) (sym (up_same m e t (subst (λ (a : ℕ). m * up e ≤ a * down e) q g)))

  -- last
  pub up_last : (x : Float) → T (fits binary32 x) → lt zero32 x ≡ true → n ≡ cut_of x last → last ≤ n → n ≡ cut_up_of x last
  unfolding lt of_bits
  up_last nan t p c h = differ (sym p)
  up_last (inf true) t p c h = differ (sym p)
  up_last (inf false) t p c h = c
  up_last (fin true m e) t p c h = differ (sym p)
  up_last (fin false m e) t p c h = full n (W m e t) (units_up (wholes (fin false m e))) last (cut_whole m e t n last c) h (up_ge m e t)

-- not above 0
zero≤ : (n : ℕ) → 0 ≤ n
zero≤ n = omega arith

nought : (w last : ℕ) → w ≡ 0 → 0 ≡ min w last
nought w last h = omega arith

pub up_none : (x : Float) (last : ℕ) → T (fits binary32 x) → lt zero32 x ≡ false → 0 ≡ cut_up_of x last
unfolding lt of_bits
up_none nan last t p = refl
up_none (inf true) last t p = refl
up_none (inf false) last t p = differ p
up_none (fin true m e) last t p = refl
up_none (fin false m e) last t p =
    let z : m * up e ≡ 0 = omega (arith, ltb-false (0 * down e) (m * up e * 1) p, zero-mul (down e)) in
    let w : W m e t ≡ 0 = ap (λ (a : ℕ). a / down e) z ∙ zero-div (down e) in
    nought (W m e t) last w ∙ ap (λ (a : ℕ). min a last) (sym (up_same m e t (le_trans (le_of_eq z) (zero≤ (W m e t * down e)))))

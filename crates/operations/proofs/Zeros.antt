-- The sign of a result that is zero, and of every product and quotient (IEEE 754-2019, 6.3); and that no operation on two finite numbers gives a NaN but 0 / 0 (7.2). Assumes nothing.
use mathlib.Core.Path.{◌≡◌, refl, ap, ◌∙◌}
use mathlib.Core.Bool.{Bool, true, false, cond, not, ◌&&◌}
use Prim.Native.Nat.{ℕ, zero, suc, ◌+◌, ◌*◌, ◌^◌, ◌<◌}
use native.Mathlib.Nat.{zero-mul, mul-zero, mul-pos}
use borrow.Author.Tests.{ne_eqb}
use lib.Dec.{ltb}
use lib.IntN.{ℤ, pos, negsuc, ◌+ℤ◌, ◌-ℤ◌, ◌*ℤ◌, +ℤ_invr}
use lib.Ieee.{Float, nan, inf, fin, Format, prec, emax, low, up, down, unlike, odd, units, round, add, sub, mul, div, is_nan}
use lib.Ieee.Fits.{round_is, down_pos}
use lib.Ieee.Order.{kept, drop}
use Rattle.operations.specs.Operations.{signed, numer, rounded}
use Rattle.operations.specs.Tests.{SignIs}
use Rattle.operations.proofs.Operations.{round_zero, signed_scale, add_exact, sub_exact, div_exact}

-- ---- rounding keeps the sign, of a zero and of an infinity too
number : (x : Float) (s : Bool) → SignIs x s → is_nan x ≡ false
unfolding is_nan
number nan s h = absurd h
number (inf t) s h = refl
number (fin t m e) s h = refl

odd_sign : (d : ℕ) (s : Bool) (q k l : ℕ) → SignIs (odd d s q k l) s
unfolding odd
odd_sign d s zero k l = refl
odd_sign d s (suc q) k l = refl

units_sign : (f : Format) (s : Bool) (q k : ℕ) → SignIs (units f s q k) s
unfolding units
units_sign f s q k = go (ltb (q * 2 ^ k) (2 ^ (low f + suc (emax f))))
  where
    go : (b : Bool) → SignIs (cond b (odd (suc (prec f)) s q k (low f)) (inf s)) s
    go true = odd_sign (suc (prec f)) s q k (low f)
    go false = refl

pub round_sign : (f : Format) (s : Bool) (num den : ℕ) → SignIs (round f s num den) s
round_sign f s num den = rw (round_is f s num den) (units_sign f s (kept (prec f) (num * 2 ^ low f) den) (drop (prec f) (num * 2 ^ low f) den))

-- ---- two finite numbers
module _ (f : Format) (s : Bool) (m : ℕ) (e : ℤ) (t : Bool) (n : ℕ) (d : ℤ) where
  -- a product or a quotient is negative if one number is and the other is not, whether it is zero, infinite or neither
  pub mul_sign : SignIs (mul f (fin s m e) (fin t n d)) (unlike s t)
  unfolding mul
  mul_sign = round_sign f (unlike s t) (m * up e * (n * up d)) (down e * down d)

  pub div_sign : (n ≡ 0 → ⊥) → SignIs (div f (fin s m e) (fin t n d)) (unlike s t)
  unfolding div
  div_sign h = rw (ne_eqb n 0 h) (round_sign f (unlike s t) (m * up e * down d) (n * up d * down e))

  -- a sum that is exactly zero is -0 if both are negative, and +0 if not
  pub add_none : numer s m e *ℤ pos (down d) +ℤ numer t n d *ℤ pos (down e) ≡ pos 0 → add f (fin s m e) (fin t n d) ≡ fin (s && t) 0 (pos 0)
  add_none h = add_exact f s m e t n d ∙ ap (λ (z : ℤ). rounded f (s && t) z (down e * down d)) h

  pub sub_none : numer s m e *ℤ pos (down d) -ℤ numer t n d *ℤ pos (down e) ≡ pos 0 → sub f (fin s m e) (fin t n d) ≡ fin (s && not t) 0 (pos 0)
  sub_none h = sub_exact f s m e t n d ∙ ap (λ (z : ℤ). rounded f (s && not t) z (down e * down d)) h

-- x - x is +0
pub sub_self : (f : Format) (s : Bool) (m : ℕ) (e : ℤ) → sub f (fin s m e) (fin s m e) ≡ fin false 0 (pos 0)
sub_self f s m e = sub_none f s m e s m e (+ℤ_invr (numer s m e *ℤ pos (down e))) ∙ ap (λ (b : Bool). fin b 0 (pos 0)) (never s)
  where
    never : (s : Bool) → (s && not s) ≡ false
    never true = refl
    never false = refl

-- ---- zeros
signed-none : (s : Bool) → signed s 0 ≡ pos 0
signed-none true = refl
signed-none false = refl

pub scaled : (s : Bool) (a c : ℕ) → signed s (0 * a) *ℤ pos c ≡ pos 0
scaled s a c = ap (λ (n : ℕ). signed s n *ℤ pos c) (zero-mul a) ∙ signed_scale s 0 c ∙ ap (signed s) (zero-mul c) ∙ signed-none s

module _ (f : Format) (e d : ℤ) where
  pub add_zeros : (s t : Bool) → add f (fin s 0 e) (fin t 0 d) ≡ fin (s && t) 0 (pos 0)
  add_zeros s t = add_none f s 0 e t 0 d (rw (scaled s (up e) (down d), scaled t (up d) (down e)))

  -- (-0) + (-0), (+0) + (-0) and (-0) + (+0)
  pub minus_and_minus : add f (fin true 0 e) (fin true 0 d) ≡ fin true 0 (pos 0)
  minus_and_minus = add_zeros true true

  pub plus_and_minus : add f (fin false 0 e) (fin true 0 d) ≡ fin false 0 (pos 0)
  plus_and_minus = add_zeros false true

  pub minus_and_plus : add f (fin true 0 e) (fin false 0 d) ≡ fin false 0 (pos 0)
  minus_and_plus = add_zeros true false

-- a product or a quotient that is exactly zero
none_of : (f : Format) (s : Bool) (num den : ℕ) → num ≡ 0 → 0 < den → round f s num den ≡ fin s 0 (pos 0)
none_of f s num den h D = ap (λ (n : ℕ). round f s n den) h ∙ round_zero f s den D

pub mul_zero_left : (f : Format) (s : Bool) (e : ℤ) (t : Bool) (n : ℕ) (d : ℤ) → mul f (fin s 0 e) (fin t n d) ≡ fin (unlike s t) 0 (pos 0)
unfolding mul
mul_zero_left f s e t n d = none_of f (unlike s t) (0 * up e * (n * up d)) (down e * down d) (rw (zero-mul (up e), zero-mul (n * up d))) (mul-pos (down_pos e) (down_pos d))

pub mul_zero_right : (f : Format) (s : Bool) (m : ℕ) (e : ℤ) (t : Bool) (d : ℤ) → mul f (fin s m e) (fin t 0 d) ≡ fin (unlike s t) 0 (pos 0)
unfolding mul
mul_zero_right f s m e t d = none_of f (unlike s t) (m * up e * (0 * up d)) (down e * down d) (rw (zero-mul (up d), mul-zero (m * up e))) (mul-pos (down_pos e) (down_pos d))

pub div_zero_left : (f : Format) (s : Bool) (e : ℤ) (t : Bool) (n : ℕ) (d : ℤ) → (n ≡ 0 → ⊥) → div f (fin s 0 e) (fin t n d) ≡ fin (unlike s t) 0 (pos 0)
div_zero_left f s e t n d h =
    let z : 0 * up e * down d ≡ 0 = rw (zero-mul (up e), zero-mul (down d)) in
    div_exact f s 0 e t n d h
    ∙ ap (λ (a : ℕ). rounded f (unlike s t) (signed (unlike s t) a) (n * up d * down e)) z
    ∙ ap (λ (z : ℤ). rounded f (unlike s t) z (n * up d * down e)) (signed-none (unlike s t))

-- ---- no NaN
rounded-number : (f : Format) (s : Bool) (z : ℤ) (den : ℕ) → is_nan (rounded f s z den) ≡ false
unfolding is_nan
rounded-number f s (pos zero) den = refl
rounded-number f s (pos (suc n)) den = number (round f false (suc n) den) false (round_sign f false (suc n) den)
rounded-number f s (negsuc n) den = number (round f true (suc n) den) true (round_sign f true (suc n) den)

module _ (f : Format) (s : Bool) (m : ℕ) (e : ℤ) (t : Bool) (n : ℕ) (d : ℤ) where
  pub add-number : is_nan (add f (fin s m e) (fin t n d)) ≡ false
  add-number = ap is_nan (add_exact f s m e t n d) ∙ rounded-number f (s && t) (numer s m e *ℤ pos (down d) +ℤ numer t n d *ℤ pos (down e)) (down e * down d)

  pub sub_number : is_nan (sub f (fin s m e) (fin t n d)) ≡ false
  sub_number = ap is_nan (sub_exact f s m e t n d) ∙ rounded-number f (s && not t) (numer s m e *ℤ pos (down d) -ℤ numer t n d *ℤ pos (down e)) (down e * down d)

  pub mul_number : is_nan (mul f (fin s m e) (fin t n d)) ≡ false
  mul_number = number (mul f (fin s m e) (fin t n d)) (unlike s t) (mul_sign f s m e t n d)

  pub div_number : (n ≡ 0 → ⊥) → is_nan (div f (fin s m e) (fin t n d)) ≡ false
  div_number h = number (div f (fin s m e) (fin t n d)) (unlike s t) (div_sign f s m e t n d h)

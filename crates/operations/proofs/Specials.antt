-- The operations when a NaN, an infinity or a division by zero takes part (IEEE 754-2019, 6.1, 6.2, 7.2 and 7.3), case by case. Assumes nothing.
use mathlib.Core.Path.{◌≡◌, refl}
use mathlib.Core.Bool.{Bool, true, false, not}
use Prim.Native.Nat.{ℕ}
use borrow.Author.Tests.{ne_eqb}
use lib.IntN.{ℤ, pos}
use lib.Ieee.{Float, nan, inf, fin, Format, unlike, add, sub, mul, div}

-- ---- NaN with anything is NaN
module _ (f : Format) where
  pub add_nan_left : (y : Float) → add f nan y ≡ nan
  unfolding add
  add_nan_left y = refl

  pub add_nan_right : (x : Float) → add f x nan ≡ nan
  unfolding add
  add_nan_right nan = refl
  add_nan_right (inf s) = refl
  add_nan_right (fin s m e) = refl

  pub sub_nan_left : (y : Float) → sub f nan y ≡ nan
  unfolding sub
  sub_nan_left y = refl

  pub sub_nan_right : (x : Float) → sub f x nan ≡ nan
  unfolding sub
  sub_nan_right x = add_nan_right x

  pub mul_nan_left : (y : Float) → mul f nan y ≡ nan
  unfolding mul
  mul_nan_left y = refl

  pub mul_nan_right : (x : Float) → mul f x nan ≡ nan
  unfolding mul
  mul_nan_right nan = refl
  mul_nan_right (inf s) = refl
  mul_nan_right (fin s m e) = refl

  pub div_nan_left : (y : Float) → div f nan y ≡ nan
  unfolding div
  div_nan_left y = refl

  pub div_nan_right : (x : Float) → div f x nan ≡ nan
  unfolding div
  div_nan_right nan = refl
  div_nan_right (inf s) = refl
  div_nan_right (fin s m e) = refl

  -- ---- sums: infinities of one sign, of both, and one with a finite number
  pub add_inf_same : (s : Bool) → add f (inf s) (inf s) ≡ inf s
  unfolding add
  add_inf_same true = refl
  add_inf_same false = refl

  pub add_inf_opposite : (s : Bool) → add f (inf s) (inf (not s)) ≡ nan
  unfolding add
  add_inf_opposite true = refl
  add_inf_opposite false = refl

  pub add_inf_finite : (s t : Bool) (n : ℕ) (d : ℤ) → add f (inf s) (fin t n d) ≡ inf s
  unfolding add
  add_inf_finite s t n d = refl

  pub add_finite_inf : (s : Bool) (m : ℕ) (e : ℤ) (t : Bool) → add f (fin s m e) (inf t) ≡ inf t
  unfolding add
  add_finite_inf s m e t = refl

  -- ---- differences
  pub sub_inf_same : (s : Bool) → sub f (inf s) (inf s) ≡ nan
  unfolding sub
  sub_inf_same s = add_inf_opposite s

  pub sub_inf_opposite : (s : Bool) → sub f (inf s) (inf (not s)) ≡ inf s
  unfolding sub
  sub_inf_opposite true = refl
  sub_inf_opposite false = refl

  pub sub_inf_finite : (s t : Bool) (n : ℕ) (d : ℤ) → sub f (inf s) (fin t n d) ≡ inf s
  unfolding sub
  sub_inf_finite s t n d = refl

  pub sub_finite_inf : (s : Bool) (m : ℕ) (e : ℤ) (t : Bool) → sub f (fin s m e) (inf t) ≡ inf (not t)
  unfolding sub
  sub_finite_inf s m e t = refl

  -- ---- products
  pub mul_inf_inf : (s t : Bool) → mul f (inf s) (inf t) ≡ inf (unlike s t)
  unfolding mul
  mul_inf_inf s t = refl

  pub mul_inf_zero : (s t : Bool) (d : ℤ) → mul f (inf s) (fin t 0 d) ≡ nan
  unfolding mul
  mul_inf_zero s t d = refl

  pub mul_zero_inf : (s : Bool) (e : ℤ) (t : Bool) → mul f (fin s 0 e) (inf t) ≡ nan
  unfolding mul
  mul_zero_inf s e t = refl

  pub mul_inf_finite : (s t : Bool) (n : ℕ) (d : ℤ) → (n ≡ 0 → ⊥) → mul f (inf s) (fin t n d) ≡ inf (unlike s t)
  unfolding mul
  mul_inf_finite s t n d h = rw (ne_eqb n 0 h)

  pub mul_finite_inf : (s : Bool) (m : ℕ) (e : ℤ) (t : Bool) → (m ≡ 0 → ⊥) → mul f (fin s m e) (inf t) ≡ inf (unlike s t)
  unfolding mul
  mul_finite_inf s m e t h = rw (ne_eqb m 0 h)

  -- ---- quotients: the sign is there in a zero and in an infinity too
  pub div_inf_inf : (s t : Bool) → div f (inf s) (inf t) ≡ nan
  unfolding div
  div_inf_inf s t = refl

  pub div_zero-zero : (s : Bool) (e : ℤ) (t : Bool) (d : ℤ) → div f (fin s 0 e) (fin t 0 d) ≡ nan
  unfolding div
  div_zero-zero s e t d = refl

  pub div_by_zero : (s : Bool) (m : ℕ) (e : ℤ) (t : Bool) (d : ℤ) → (m ≡ 0 → ⊥) → div f (fin s m e) (fin t 0 d) ≡ inf (unlike s t)
  unfolding div
  div_by_zero s m e t d h = rw (ne_eqb m 0 h)

  pub div_by_inf : (s : Bool) (m : ℕ) (e : ℤ) (t : Bool) → div f (fin s m e) (inf t) ≡ fin (unlike s t) 0 (pos 0)
  unfolding div
  div_by_inf s m e t = refl

  -- a zero below an infinity too
  pub div_inf_finite : (s t : Bool) (n : ℕ) (d : ℤ) → div f (inf s) (fin t n d) ≡ inf (unlike s t)
  unfolding div
  div_inf_finite s t n d = refl

-- The comparisons (IEEE 754-2019, 5.11): for two finite numbers they are those of whole numbers, over one denominator. So -0 equals +0. A NaN is not ordered, and infinities are at the ends.
-- Assumes nothing.
use mathlib.Core.Path.{◌≡◌, refl, sym, ap, ◌∙◌}
use mathlib.Core.Bool.{Bool, true, false, not, ◌&&◌, ◌||◌, beq}
use Prim.Native.Nat.{ℕ, zero, suc, ◌+◌, ◌*◌, ◌≤◌, ◌<◌}
use native.Mathlib.Nat.{zero-add, le_of_lt, le_of_eq, le_antisymm, lt_of_not-le}
use native.Mathlib.Decide.{dec_le}
use native.Mathlib.Omega.{arith}
use borrow.Author.Tests.{ltb-true, ltb-false, eqb-true, lt-ltb, le-leb, lt-leb, eq-eqb, ne_eqb}
use lib.Dec.{leb, ltb, eqb, leb-suc-suc, leb-suc-zero, eqb-suc-suc, eqb-zero-suc, eqb-suc-zero}
use lib.IntN.{ℤ, pos, negsuc}
use lib.Signed.{lt_z, le_z}
use lib.Ieee.{Float, nan, inf, fin, up, down, below, level, lt, le, eq, ne}
use Rattle.ieee.proofs.Compare.{differ}
use Rattle.operations.specs.Operations.{signed, over}
use Rattle.operations.specs.Tests.{eq_z}
use Rattle.operations.proofs.Operations.{signed_scale}
use Rattle.operations.proofs.Zeros.{scaled}

-- ---- numbers with a sign
below-is : (s t : Bool) (a b : ℕ) → below s a t b ≡ lt_z (signed s a) (signed t b)
below-is false false a b = refl
below-is false true a zero = sym (leb-suc-zero a)
below-is false true a (suc b) = refl
below-is true false zero b = ap (ltb 0) (zero-add b)
below-is true false (suc a) b = lt-ltb 0 (suc a + b) (omega arith)
below-is true true zero zero = refl
below-is true true zero (suc b) = leb-suc-zero (suc b)
below-is true true (suc a) zero = lt-ltb 0 (suc a) (omega arith)
below-is true true (suc a) (suc b) = leb-suc-suc (suc b) a

and_true : (p : Bool) → (p && true) ≡ p
and_true true = refl
and_true false = refl

or_false : (p : Bool) → (p || false) ≡ p
or_false true = refl
or_false false = refl

and_false : (p : Bool) → (p && false) ≡ false
and_false true = refl
and_false false = refl

level_is : (s t : Bool) (a b : ℕ) → level s a t b ≡ eq_z (signed s a) (signed t b)
level_is false false a b = and_true (eqb a b)
level_is false true zero zero = refl
level_is false true zero (suc b) = rw (eqb-zero-suc b)
level_is false true (suc a) zero = rw (eqb-suc-zero a)
level_is false true (suc a) (suc b) = rw (eqb-suc-zero a) (and_false (eqb (suc a) (suc b)))
level_is true false zero zero = refl
level_is true false zero (suc b) = rw (eqb-zero-suc b)
level_is true false (suc a) zero = rw (eqb-suc-zero a)
level_is true false (suc a) (suc b) = rw (eqb-suc-zero a) (and_false (eqb (suc a) (suc b)))
level_is true true zero zero = refl
level_is true true zero (suc b) = rw (eqb-zero-suc b)
level_is true true (suc a) zero = rw (eqb-suc-zero a)
level_is true true (suc a) (suc b) = and_true (eqb (suc a) (suc b)) ∙ eqb-suc-suc a b

-- at most: below or equal
up_to : (a b : ℕ) → (ltb a b || eqb a b) ≡ leb a b
up_to a b = go (ltb a b) (ltb-true a b) (ltb-false a b)
  where
    go : (t : Bool) → (t ≡ true → a < b) → (t ≡ false → b ≤ a) → (t || eqb a b) ≡ leb a b
    go true g h = sym (le-leb a b (le_of_lt (g refl)))
    go false g h = elim (dec_le a b) [ yes l ↦ eq-eqb a b (le_antisymm l (h refl)) ∙ sym (le-leb a b l) | no n ↦ ne_eqb a b (λ (e : a ≡ b). n (le_of_eq e)) ∙ sym (lt-leb a b (lt_of_not-le n)) ]

up_to_Z : (x y : ℤ) → (lt_z x y || eq_z x y) ≡ le_z x y
up_to_Z (pos a) (pos b) = up_to a b
up_to_Z (pos a) (negsuc b) = refl
up_to_Z (negsuc a) (pos b) = refl
up_to_Z (negsuc a) (negsuc b) = ap (λ (t : Bool). ltb b a || t) (eqb_swap a b) ∙ up_to b a
  where
    eqb_swap : (a b : ℕ) → eqb a b ≡ eqb b a
    eqb_swap zero zero = refl
    eqb_swap zero (suc b) = eqb-zero-suc b ∙ sym (eqb-suc-zero b)
    eqb_swap (suc a) zero = eqb-suc-zero a ∙ sym (eqb-zero-suc a)
    eqb_swap (suc a) (suc b) = eqb-suc-suc a b ∙ eqb_swap a b ∙ sym (eqb-suc-suc b a)

-- the test that `eq_z` makes is equality
pub eq_z_true : (x y : ℤ) → eq_z x y ≡ true → x ≡ y
eq_z_true (pos a) (pos b) h = ap pos (eqb-true a b h)
eq_z_true (pos a) (negsuc b) h = differ (sym h)
eq_z_true (negsuc a) (pos b) h = differ (sym h)
eq_z_true (negsuc a) (negsuc b) h = ap negsuc (eqb-true a b h)

eq_z_same : (x : ℤ) → eq_z x x ≡ true
eq_z_same (pos a) = eq-eqb a a refl
eq_z_same (negsuc a) = eq-eqb a a refl

pub eq_z_eq : (x y : ℤ) → x ≡ y → eq_z x y ≡ true
eq_z_eq x y h = ap (eq_z x) (sym h) ∙ eq_z_same x

-- ---- two finite numbers
module _ (s : Bool) (m : ℕ) (e : ℤ) (t : Bool) (n : ℕ) (d : ℤ) where
  over-one : (test : ℤ → ℤ → Bool) → test (signed s (m * up e * down d)) (signed t (n * up d * down e)) ≡ test (over s m e d) (over t n d e)
  over-one test =
      ap (λ (z : ℤ). test z (signed t (n * up d * down e))) (sym (signed_scale s (m * up e) (down d)))
      ∙ ap (test (over s m e d)) (sym (signed_scale t (n * up d) (down e)))

  pub lt_exact : lt (fin s m e) (fin t n d) ≡ lt_z (over s m e d) (over t n d e)
  unfolding lt
  lt_exact = below-is s t (m * up e * down d) (n * up d * down e) ∙ over-one lt_z

  pub eq_exact : eq (fin s m e) (fin t n d) ≡ eq_z (over s m e d) (over t n d e)
  unfolding eq
  eq_exact = level_is s t (m * up e * down d) (n * up d * down e) ∙ over-one eq_z

  pub le_exact : le (fin s m e) (fin t n d) ≡ le_z (over s m e d) (over t n d e)
  unfolding le
  le_exact = rw (lt_exact, eq_exact) (up_to_Z (over s m e d) (over t n d e))

  pub ne_exact : ne (fin s m e) (fin t n d) ≡ not (eq_z (over s m e d) (over t n d e))
  unfolding ne
  ne_exact = ap not eq_exact

-- zeros are equal, whatever their signs: -0 = +0, and neither is below the other
module _ (s t : Bool) (e d : ℤ) where
  pub zeros_eq : eq (fin s 0 e) (fin t 0 d) ≡ true
  zeros_eq = eq_exact s 0 e t 0 d ∙ rw (scaled s (up e) (down d), scaled t (up d) (down e))

  pub zeros_lt : lt (fin s 0 e) (fin t 0 d) ≡ false
  zeros_lt = lt_exact s 0 e t 0 d ∙ rw (scaled s (up e) (down d), scaled t (up d) (down e))

  pub zeros_le : le (fin s 0 e) (fin t 0 d) ≡ true
  zeros_le = le_exact s 0 e t 0 d ∙ rw (scaled s (up e) (down d), scaled t (up d) (down e))

pub minus-zero_eq : eq (fin true 0 (pos 0)) (fin false 0 (pos 0)) ≡ true
minus-zero_eq = zeros_eq true false (pos 0) (pos 0)

-- ---- NaN: each comparison is false on either side, but `ne`, which is true
pub lt_nan_left : (y : Float) → lt nan y ≡ false
unfolding lt
lt_nan_left y = refl

pub lt_nan_right : (x : Float) → lt x nan ≡ false
unfolding lt
lt_nan_right nan = refl
lt_nan_right (inf s) = refl
lt_nan_right (fin s m e) = refl

pub eq_nan_left : (y : Float) → eq nan y ≡ false
unfolding eq
eq_nan_left y = refl

pub eq_nan_right : (x : Float) → eq x nan ≡ false
unfolding eq
eq_nan_right nan = refl
eq_nan_right (inf s) = refl
eq_nan_right (fin s m e) = refl

pub le_nan_left : (y : Float) → le nan y ≡ false
unfolding le
le_nan_left y = refl

pub le_nan_right : (x : Float) → le x nan ≡ false
unfolding le
le_nan_right x = rw (lt_nan_right x, eq_nan_right x)

pub ne_nan_left : (y : Float) → ne nan y ≡ true
unfolding ne
ne_nan_left y = refl

pub ne_nan_right : (x : Float) → ne x nan ≡ true
unfolding ne
ne_nan_right x = ap not (eq_nan_right x)

-- ---- infinities: the negative one is below every finite number, the positive one above, and each equals itself alone
pub lt_inf_inf : (s t : Bool) → lt (inf s) (inf t) ≡ (s && not t)
unfolding lt
lt_inf_inf s t = refl

pub eq_inf_inf : (s t : Bool) → eq (inf s) (inf t) ≡ beq s t
unfolding eq
eq_inf_inf s t = refl

pub le_inf_inf : (s t : Bool) → le (inf s) (inf t) ≡ (s || not t)
unfolding le
le_inf_inf true true = refl
le_inf_inf true false = refl
le_inf_inf false true = refl
le_inf_inf false false = refl

module _ (s t : Bool) (n : ℕ) (d : ℤ) where
  pub lt_inf_finite : lt (inf s) (fin t n d) ≡ s
  unfolding lt
  lt_inf_finite = refl

  pub lt_finite_inf : lt (fin t n d) (inf s) ≡ not s
  unfolding lt
  lt_finite_inf = refl

  pub eq_inf_finite : eq (inf s) (fin t n d) ≡ false
  unfolding eq
  eq_inf_finite = refl

  pub eq_finite_inf : eq (fin t n d) (inf s) ≡ false
  unfolding eq
  eq_finite_inf = refl

  pub le_inf_finite : le (inf s) (fin t n d) ≡ s
  unfolding le
  le_inf_finite = or_false s

  pub le_finite_inf : le (fin t n d) (inf s) ≡ not s
  unfolding le
  le_finite_inf = or_false (not s)

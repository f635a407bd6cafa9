-- The four operations on finite numbers are the exact result, rounded (IEEE 754-2019, 5.4.1), with the sign of a zero as 6.3 has it. Assumes nothing.
use mathlib.Core.Path.{◌≡◌, refl, sym, ap, ◌∙◌}
use mathlib.Core.Bool.{Bool, true, false, cond, not, ◌&&◌}
use Prim.Native.Nat.{ℕ, zero, suc, ◌+◌, ◌-◌, ◌*◌, ◌≤◌, ◌<◌}
use native.Mathlib.Nat.{zero-mul, mul-pos, mul_comm, sub-add_cancel, le_of_lt}
use native.Mathlib.Omega.{arith}
use borrow.Author.Tests.{ltb-true, ltb-false, le-ltb, ne_eqb}
use lib.Dec.{ltb, eqb}
use lib.IntN.{ℤ, pos, neg_ℤ, ◌+ℤ◌, ◌-ℤ◌, ◌*ℤ◌, +ℤ_comm, +ℤ-neg_ℤ_cancel, neg_ℤ-+ℤ, neg_ℤ-neg_ℤ, *ℤ_comm}
use lib.Ieee.{nan, inf, fin, Format, binary32, binary64, up, down, unlike, round, sum, add, sub, mul, div}
use lib.Ieee.Fits.{down_pos, up_pos}
use lib.Ieee.Scale.{round_same}
use Rattle.laws.proofs.Integers.{neg_mul}
use Rattle.operations.specs.Operations.{signed, numer, rounded}

-- ---- a zero rounded is a zero with the same sign
zero_one : (f : Format) (s : Bool) → round f s 0 1 ≡ fin s 0 (pos 0)
unfolding round
zero_one binary32 s = refl
zero_one binary64 s = refl

pub round_zero : (f : Format) (s : Bool) (den : ℕ) → 0 < den → round f s 0 den ≡ fin s 0 (pos 0)
round_zero f s den h = round_same f s 0 den 0 1 h (omega arith) (sym (zero-mul den)) ∙ zero_one f s

-- a size rounded with its sign is the whole number rounded, if a zero has the sign that was asked for
pub with_sign : (f : Format) (s u : Bool) (n den : ℕ) → 0 < den → (n ≡ 0 → s ≡ u) → round f s n den ≡ rounded f u (signed s n) den
with_sign f false u zero den h k = round_zero f false den h ∙ ap (λ (b : Bool). fin b 0 (pos 0)) (k refl)
with_sign f true u zero den h k = round_zero f true den h ∙ ap (λ (b : Bool). fin b 0 (pos 0)) (k refl)
with_sign f false u (suc n) den h k = refl
with_sign f true u (suc n) den h k = refl

-- ---- sums and products of numbers with a sign
sub_le : (a b : ℕ) → b ≤ a → pos a -ℤ pos b ≡ pos (a - b)
sub_le a b h = ap (λ (n : ℕ). pos n -ℤ pos b) (sym (sub-add_cancel h)) ∙ +ℤ-neg_ℤ_cancel (pos (a - b)) (pos b)

sub_ge : (a b : ℕ) → a ≤ b → pos a -ℤ pos b ≡ neg_ℤ (pos (b - a))
sub_ge a b h =
    +ℤ_comm (pos a) (neg_ℤ (pos b))
    ∙ ap (λ (z : ℤ). neg_ℤ (pos b) +ℤ z) (sym (neg_ℤ-neg_ℤ (pos a)))
    ∙ sym (neg_ℤ-+ℤ (pos b) (neg_ℤ (pos a)))
    ∙ ap neg_ℤ (sub_le b a h)

mul_minus : (a b : ℕ) → pos a *ℤ neg_ℤ (pos b) ≡ neg_ℤ (pos (a * b))
mul_minus a b = *ℤ_comm (pos a) (neg_ℤ (pos b)) ∙ neg_mul (pos b) (pos a) ∙ ap (λ (n : ℕ). neg_ℤ (pos n)) (mul_comm b a)

pub signed_mul : (s t : Bool) (a b : ℕ) → signed s a *ℤ signed t b ≡ signed (unlike s t) (a * b)
signed_mul false false a b = refl
signed_mul true false a b = neg_mul (pos a) (pos b)
signed_mul false true a b = mul_minus a b
signed_mul true true a b = neg_mul (pos a) (neg_ℤ (pos b)) ∙ ap neg_ℤ (mul_minus a b) ∙ neg_ℤ-neg_ℤ (pos (a * b))

-- a number with a sign times one that has none
pub signed_scale : (s : Bool) (a b : ℕ) → signed s a *ℤ pos b ≡ signed s (a * b)
signed_scale false a b = signed_mul false false a b
signed_scale true a b = signed_mul true false a b

pub signed_not : (s : Bool) (a : ℕ) → signed (not s) a ≡ neg_ℤ (signed s a)
signed_not false a = refl
signed_not true a = sym (neg_ℤ-neg_ℤ (pos a))

signed-minus : (u : Bool) (n : ℕ) → (u ≡ false → n ≡ 0) → signed u n ≡ neg_ℤ (pos n)
signed-minus true n h = refl
signed-minus false n h = rw (h refl)

-- ---- the library's sum of two fractions, of unlike signs and of any
module _ (f : Format) (a b c : ℕ) (C : 0 < c) where
  minus_last : (t : Bool) → (t ≡ true → a < b) → (t ≡ false → b ≤ a)
      → cond t (round f true (b - a) c) (round f false (a - b) c) ≡ rounded f false (pos a -ℤ pos b) c
  minus_last true g h =
      let l = g refl in
      with_sign f true false (b - a) c C (λ (z : b - a ≡ 0). absurd (omega arith)) ∙ ap (λ (z : ℤ). rounded f false z c) (sym (sub_ge a b (le_of_lt l)))
  minus_last false g h = with_sign f false false (a - b) c C (λ _. refl) ∙ ap (λ (z : ℤ). rounded f false z c) (sym (sub_le a b (h refl)))

  minus-first : (t u : Bool) → (t ≡ true → a < b) → (t ≡ false → b ≤ a) → (a ≤ b → u ≡ false) → (u ≡ false → a ≤ b)
      → cond t (round f false (b - a) c) (round f u (a - b) c) ≡ rounded f false (pos b -ℤ pos a) c
  minus-first true u g h v w = with_sign f false false (b - a) c C (λ _. refl) ∙ ap (λ (z : ℤ). rounded f false z c) (sym (sub_le b a (le_of_lt (g refl))))
  minus-first false u g h v w =
      with_sign f u false (a - b) c C (λ (z : a - b ≡ 0). v (omega arith))
      ∙ ap (λ (z : ℤ). rounded f false z c) (signed-minus u (a - b) (λ (e : u ≡ false). none (w e)) ∙ sym (sub_ge b a (h refl)))
    where
      none : a ≤ b → a - b ≡ 0
      none l = omega arith

pub sum_exact : (f : Format) (s t : Bool) (a b c : ℕ) → 0 < c → sum f s a t b c ≡ rounded f (s && t) (signed s a +ℤ signed t b) c
unfolding sum
sum_exact f false false a b c C = with_sign f false false (a + b) c C (λ _. refl)
sum_exact f true true a b c C = with_sign f true true (a + b) c C (λ _. refl) ∙ ap (λ (z : ℤ). rounded f true z c) (neg_ℤ-+ℤ (pos a) (pos b))
sum_exact f false true a b c C = minus_last f a b c C (ltb a b) (ltb-true a b) (ltb-false a b)
sum_exact f true false a b c C =
    minus-first f a b c C (ltb a b) (ltb b a) (ltb-true a b) (ltb-false a b) (le-ltb b a) (ltb-false b a)
    ∙ ap (λ (z : ℤ). rounded f false z c) (+ℤ_comm (pos b) (neg_ℤ (pos a)))

-- ---- the operations on s m e and t n d, which stand for m * 2 ^ e and n * 2 ^ d with their signs
module _ (f : Format) (s : Bool) (m : ℕ) (e : ℤ) (t : Bool) (n : ℕ) (d : ℤ) where
  den_pos : 0 < down e * down d
  den_pos = mul-pos (down_pos e) (down_pos d)

  pub add_exact : add f (fin s m e) (fin t n d) ≡ rounded f (s && t) (numer s m e *ℤ pos (down d) +ℤ numer t n d *ℤ pos (down e)) (down e * down d)
  unfolding add
  add_exact =
      sum_exact f s t (m * up e * down d) (n * up d * down e) (down e * down d) den_pos
      ∙ ap (λ (z : ℤ). rounded f (s && t) (z +ℤ signed t (n * up d * down e)) (down e * down d)) (sym (signed_scale s (m * up e) (down d)))
      ∙ ap (λ (z : ℤ). rounded f (s && t) (numer s m e *ℤ pos (down d) +ℤ z) (down e * down d)) (sym (signed_scale t (n * up d) (down e)))

  pub mul_exact : mul f (fin s m e) (fin t n d) ≡ rounded f (unlike s t) (numer s m e *ℤ numer t n d) (down e * down d)
  unfolding mul
  mul_exact =
      with_sign f (unlike s t) (unlike s t) (m * up e * (n * up d)) (down e * down d) den_pos (λ _. refl)
      ∙ ap (λ (z : ℤ). rounded f (unlike s t) z (down e * down d)) (sym (signed_mul s t (m * up e) (n * up d)))

  pub div_exact : (n ≡ 0 → ⊥) → div f (fin s m e) (fin t n d) ≡ rounded f (unlike s t) (signed (unlike s t) (m * up e * down d)) (n * up d * down e)
  unfolding div
  div_exact h =
      ap (λ (b : Bool). cond b (cond (eqb m 0) nan (inf (unlike s t))) (round f (unlike s t) (m * up e * down d) (n * up d * down e))) (ne_eqb n 0 h)
      ∙ with_sign f (unlike s t) (unlike s t) (m * up e * down d) (n * up d * down e) (mul-pos (mul-pos (above n h) (up_pos d)) (down_pos e)) (λ _. refl)
    where
      above : (n : ℕ) → (n ≡ 0 → ⊥) → 0 < n
      above n h = omega arith

pub sub_exact : (f : Format) (s : Bool) (m : ℕ) (e : ℤ) (t : Bool) (n : ℕ) (d : ℤ)
    → sub f (fin s m e) (fin t n d) ≡ rounded f (s && not t) (numer s m e *ℤ pos (down d) -ℤ numer t n d *ℤ pos (down e)) (down e * down d)
unfolding sub
sub_exact f s m e t n d =
    add_exact f s m e (not t) n d
    ∙ ap (λ (z : ℤ). rounded f (s && not t) (numer s m e *ℤ pos (down d) +ℤ z) (down e * down d))
    (ap (λ (z : ℤ). z *ℤ pos (down e)) (signed_not t (n * up d)) ∙ neg_mul (numer t n d) (pos (down e)))

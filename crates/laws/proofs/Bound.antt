-- How large a result can be, with bounds that compute: `mul (sub p q) r` bounds a difference times a number by a numeral.
-- Assumes nothing.
use mathlib.Core.Path.{◌≡◌, refl}
use mathlib.Core.Bool.{cond, true, false, Bool}
use Prim.Native.Nat.{ℕ, zero, suc, ◌+◌, ◌*◌, ◌-◌, ◌^◌, ◌≤◌}
use native.Mathlib.Nat.{le_trans, lt_of_le_of_lt, mul-le-mul}
use native.Mathlib.Omega.{arith}
use lib.Dec.{T, leb, ltb, leb→le, ltb→lt}
use borrow.Author.Tests.{ltb-true}
use lib.IntN.{ℤ, pos, negsuc, neg_ℤ, nat_abs, sub_ℕ, ◌+ℤ◌, ◌-ℤ◌, ◌*ℤ◌}
use lib.Signed.{mag}
use mir.Syntax.{Width, w32}
use mir.Val.{SFits, hbits}
use Rattle.laws.specs.Within.{Within}

abs_neg : (a : ℤ) → nat_abs (neg_ℤ a) ≡ nat_abs a
abs_neg (pos zero) = refl
abs_neg (pos (suc n)) = refl
abs_neg (negsuc n) = refl

abs_sub : (a b : ℕ) → nat_abs (sub_ℕ a b) ≤ a + b
abs_sub a b = go (ltb a b) refl
  where
    go : (t : Bool) → ltb a b ≡ t → nat_abs (cond t (negsuc (b - suc a)) (pos (a - b))) ≤ a + b
    go true e = omega (arith, ltb-true a b e)
    go false e = omega arith

abs_add : (a b : ℤ) → nat_abs (a +ℤ b) ≤ nat_abs a + nat_abs b
abs_add (pos a) (pos b) = omega arith
abs_add (pos a) (negsuc b) = abs_sub a (suc b)
abs_add (negsuc a) (pos b) = le_trans (abs_sub b (suc a)) (omega arith)
abs_add (negsuc a) (negsuc b) = omega arith

abs_mul : (a b : ℤ) → nat_abs (a *ℤ b) ≡ nat_abs a * nat_abs b
abs_mul (pos a) (pos b) = refl
abs_mul (pos a) (negsuc b) = abs_neg (pos (a * suc b))
abs_mul (negsuc a) (pos b) = abs_neg (pos (suc a * b))
abs_mul (negsuc a) (negsuc b) = refl

mag_abs : (a : ℤ) → mag a ≤ nat_abs a
mag_abs (pos a) = omega arith
mag_abs (negsuc a) = omega arith

module _ {m n : ℕ} {a b : ℤ} where
  pub add : Within m a → Within n b → Within (m + n) (a +ℤ b)
  add p q = record { within = omega (arith, p.within, q.within, abs_add a b) }

  pub sub : Within m a → Within n b → Within (m + n) (a -ℤ b)
  sub p q = record { within = omega (arith, p.within, q.within, abs_add a (neg_ℤ b), abs_neg b) }

  pub mul : Within m a → Within n b → Within (m * n) (a *ℤ b)
  mul p q = record { within = rw (abs_mul a b) (mul-le-mul p.within q.within) }

-- a number within a bound fits a width that holds the bound: `fits tt p`
pub fits : {w : Width} {n : ℕ} {a : ℤ} → T (ltb n (2 ^ hbits w)) → Within n a → SFits w a
fits {w} {n} {a} t p = record { sfits = lt_of_le_of_lt (le_trans (mag_abs a) p.within) (ltb→lt n (2 ^ hbits w) t) }

-- a bound may be given away
pub wider : {m n : ℕ} {a : ℤ} → T (leb m n) → Within m a → Within n a
wider {m} {n} t p = record { within = le_trans p.within (leb→le m n t) }

-- what 32 bits hold
pub within32 : {a : ℤ} → SFits w32 a → Within 2147483648 a
within32 {a = pos n} p = record { within = omega (arith, p.sfits) }
within32 {a = negsuc n} p = record { within = omega (arith, p.sfits) }

-- Two floats that are the same or both zeros: a product or a sum with a third is so again. With a number that is not -0.0 the two sums are the same. Assumes nothing.
use mathlib.Core.Path.{◌≡◌, refl, sym, ◌∙◌}
use mathlib.Core.Bool.{Bool, true, false, ◌&&◌}
use Prim.Native.Nat.{ℕ, zero, suc, ◌*◌, ◌<◌}
use native.Mathlib.Nat.{zero-mul, mul-zero, mul-pos, zero-add, add-zero, sub-zero}
use native.Mathlib.Omega.{arith}
use borrow.Author.Tests.{lt-ltb, le-ltb}
use lib.Dec.{T}
use lib.IntN.{ℤ, pos}
use lib.Ieee.{Float, nan, inf, fin, binary32, up, down, unlike, round, sum, add, mul, fits}
use lib.Ieee.Fits.{up_pos, down_pos}
use Rattle.ieee.proofs.Values.{round_self}
use Rattle.light.proofs.Zeros.{not_minus}

pub data Alike : Float → Float → Type 0 where
  same : {x : Float} → Alike x x
  zeros : {s t : Bool} → Alike (fin s 0 (pos 0)) (fin t 0 (pos 0))

zero_rounds : (s : Bool) (c : ℕ) → 0 < c → round binary32 s 0 c ≡ fin s 0 (pos 0)
unfolding fits
zero_rounds s c C = round_self s 0 (pos 0) 0 c tt C (sym (zero-mul c))

-- ---- products
product : (u : Bool) (m : ℕ) (e : ℤ) (s : Bool) → mul binary32 (fin u m e) (fin s 0 (pos 0)) ≡ fin (unlike u s) 0 (pos 0)
unfolding mul
product u m e s = rw (mul-zero (m * up e)) (zero_rounds (unlike u s) (down e * 1) (mul-pos (down_pos e) (omega arith)))

pub mul_alike : {x y : Float} (a : Float) → Alike x y → Alike (mul binary32 a x) (mul binary32 a y)
unfolding mul
mul_alike a same = same
mul_alike nan zeros = same
mul_alike (inf u) zeros = same
mul_alike (fin u m e) (zeros {s} {t}) = rw (product u m e s, product u m e t) zeros

-- ---- sums with a zero
sum_zeros : (s t : Bool) (c : ℕ) → 0 < c → sum binary32 s 0 t 0 c ≡ fin (s && t) 0 (pos 0)
unfolding sum
sum_zeros true true c C = zero_rounds true c C
sum_zeros true false c C = zero_rounds false c C
sum_zeros false true c C = zero_rounds false c C
sum_zeros false false c C = zero_rounds false c C

sum_left : (s t : Bool) (b c : ℕ) → 0 < b → sum binary32 s 0 t b c ≡ round binary32 t b c
unfolding sum
sum_left true true b c h = rw zero-add
sum_left true false b c h = rw (lt-ltb 0 b h, sub-zero)
sum_left false true b c h = rw (lt-ltb 0 b h, sub-zero)
sum_left false false b c h = rw zero-add

sum_right : (s t : Bool) (a c : ℕ) → 0 < a → sum binary32 s a t 0 c ≡ round binary32 s a c
unfolding sum
sum_right true true a c h = rw add-zero
sum_right true false a c h = rw (le-ltb a 0 (omega arith), lt-ltb 0 a h, sub-zero)
sum_right false true a c h = rw (le-ltb a 0 (omega arith), sub-zero)
sum_right false false a c h = rw add-zero

module _ (s u : Bool) (d : ℤ) where
  none_left : add binary32 (fin s 0 (pos 0)) (fin u 0 d) ≡ fin (s && u) 0 (pos 0)
  unfolding add
  none_left = rw (zero-mul (down d), zero-mul (up d)) (sum_zeros s u (1 * down d) (mul-pos (omega arith) (down_pos d)))

  none_right : add binary32 (fin u 0 d) (fin s 0 (pos 0)) ≡ fin (u && s) 0 (pos 0)
  unfolding add
  none_right = rw (zero-mul (up d), zero-mul (down d)) (sum_zeros u s (down d * 1) (mul-pos (down_pos d) (omega arith)))

  module _ (n : ℕ) where
    some : 0 < suc n * up d * 1
    some = mul-pos (mul-pos {m = suc n} (omega arith) (up_pos d)) (omega arith)

    some_left : add binary32 (fin s 0 (pos 0)) (fin u (suc n) d) ≡ round binary32 u (suc n * up d * 1) (1 * down d)
    unfolding add
    some_left = rw (zero-mul (down d)) (sum_left s u (suc n * up d * 1) (1 * down d) some)

    some_right : add binary32 (fin u (suc n) d) (fin s 0 (pos 0)) ≡ round binary32 u (suc n * up d * 1) (down d * 1)
    unfolding add
    some_right = rw (zero-mul (down d)) (sum_right u s (suc n * up d * 1) (down d * 1) some)

pub add_left : {x y : Float} (a : Float) → Alike x y → Alike (add binary32 x a) (add binary32 y a)
unfolding add
add_left a same = same
add_left nan zeros = same
add_left (inf u) zeros = same
add_left (fin u zero d) (zeros {s} {t}) = rw (none_left s u d, none_left t u d) zeros
add_left (fin u (suc n) d) (zeros {s} {t}) = rw (some_left s u d n, some_left t u d n) same

pub add_right : {x y : Float} (a : Float) → Alike x y → Alike (add binary32 a x) (add binary32 a y)
unfolding add
add_right a same = same
add_right nan zeros = same
add_right (inf u) zeros = same
add_right (fin u zero d) (zeros {s} {t}) = rw (none_right s u d, none_right t u d) zeros
add_right (fin u (suc n) d) (zeros {s} {t}) = rw (some_right s u d n, some_right t u d n) same

-- what is not -0.0 takes either zero alike
pub add_same : {x y : Float} (a : Float) → T (not_minus a) → Alike x y → add binary32 a x ≡ add binary32 a y
unfolding add
add_same a h same = refl
add_same nan h zeros = refl
add_same (inf u) h zeros = refl
add_same (fin true zero d) h zeros = absurd h
add_same (fin false zero d) h (zeros {s} {t}) = none_right s false d ∙ sym (none_right t false d)
add_same (fin u (suc n) d) h (zeros {s} {t}) = some_right s u d n ∙ sym (some_right t u d n)

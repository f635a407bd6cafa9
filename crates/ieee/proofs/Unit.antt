-- A clamp in front of a colour's byte is idle: the cast saturates, so what is above 1 gives 255, and what is below 0 gives 0, with the clamp or without it.
-- Rounding keeps the order and the sign: above 1 the product and the sum are 255 or more, and below 0 the product has its sign set and the sum is at most 0.5. Assumes nothing.
use Rattle.std.proofs.Common.{◌≡◌, ℕ, zero, suc, ◌+◌, ◌-◌, ◌*◌, ◌/◌, ◌^◌, ◌<◌, ◌≤◌, min, Bool, true, false, cond, ◌&&◌, ◌||◌, T, eqb, ltb, sym, refl, ◌∙◌, zero-le, le_of_eq, le_of_lt, zero-mul, arith, ltb-false, ltb-true, eqb-true}
use lib.Ieee.{Float, nan, inf, fin, binary32, up, down, odd, units, round, sum, add, mul, lt, le, of_bits}
use lib.Ieee.Fits.{down_pos, round_is}
use lib.Ieee.Nearest.{div_mono}
use lib.Ieee.Order.{round_mono, kept, drop}
use lib.Ieee.Positive.{above, above_of_le, le→cross}
use Rattle.ieee.specs.Units.{zero32, one32, wholes}
use Rattle.ieee.specs.Range.{clamp_of}
use Rattle.ieee.specs.Casts.{cut_of, unit_byte_of}
use Rattle.ieee.proofs.Bytes.{half, most}
use Rattle.ieee.proofs.Compare.{differ}
use Rattle.ieee.proofs.Cuts.{whole_part, cut_le}

-- ---- what is no smaller is cut to no less
up_to : (a b : ℕ) → T (ltb a b || (eqb a b && true)) → a ≤ b
up_to a b = go (ltb a b) (eqb a b) (ltb-true a b) (eqb-true a b)
  where
    go : (p q : Bool) → (p ≡ true → a < b) → (q ≡ true → a ≡ b) → T (p || (q && true)) → a ≤ b
    go true q f g t = le_of_lt (f refl)
    go false true f g t = le_of_eq (g refl)
    go false false f g t = absurd t

min_mono : (a b last : ℕ) → a ≤ b → min a last ≤ min b last
min_mono a b last h = omega arith

cut_mono : (x y : Float) (last : ℕ) → T (above y) → T (le x y) → cut_of x last ≤ cut_of y last
unfolding le
cut_mono x nan last p h = absurd p
cut_mono x (inf true) last p h = absurd p
cut_mono x (inf false) last p h = cut_le x last
cut_mono x (fin true n d) last p h = absurd p
cut_mono nan (fin false n d) last p h = zero-le
cut_mono (inf true) (fin false n d) last p h = zero-le
cut_mono (inf false) (fin false n d) last p h = absurd h
cut_mono (fin true m e) (fin false n d) last p h = zero-le
cut_mono (fin false m e) (fin false n d) last p h =
    rw (whole_part false m e, whole_part false n d)
    (min_mono (m * up e / down e) (n * up d / down d) last
    (div_mono (m * up e) (down e) (n * up d) (down d) (down_pos e) (down_pos d) (up_to (m * up e * down d) (n * up d * down e) h)))

-- ---- above 1
most-is : round binary32 false 255 1 ≡ most
unfolding round of_bits
most-is = refl

-- a number from 255 on, rounded; 255 times one above 1; and 0.5 more than that
from-most : (a c : ℕ) → 0 < c → 255 * c ≤ a → T (le most (round binary32 false a c))
from-most a c C h = rw most-is at (round_mono binary32 255 1 a c (omega arith) C (omega arith))

mul_most : (v : Float) → lt one32 v ≡ true → T (le most (mul binary32 v most))
unfolding lt le mul of_bits
mul_most nan h = differ (sym h)
mul_most (inf true) h = differ (sym h)
mul_most (inf false) h = tt
mul_most (fin true m e) h = differ (sym h)
mul_most (fin false m e) h = from-most (m * up e * 255) (down e * 1) (omega (arith, down_pos e)) (omega (arith, ltb-true (1 * down e) (m * up e * 1) h))

add_most : (p : Float) → T (le most p) → T (le most (add binary32 p half))
unfolding le add of_bits
add_most p h = go p (above_of_le most p tt h) h
  where
    go : (p : Float) → T (above p) → T (le most p) → T (le most (add binary32 p half))
    go nan a h = absurd a
    go (inf true) a h = absurd a
    go (inf false) a h = tt
    go (fin true n d) a h = absurd a
    go (fin false n d) a h =
        from-most (n * up d * 2 + 1 * down d) (down d * 2) (omega (arith, down_pos d)) (omega (arith, le→cross most (fin false n d) tt a h))

unit_over : (v : Float) → lt one32 v ≡ true → unit_byte_of v ≡ 255
unfolding of_bits wholes
unit_over v h =
    let p = mul binary32 v most in
    let g = add_most p (mul_most v h) in
    let s = add binary32 p half in
    omega (arith, cut_le s 255, cut_mono most s 255 (above_of_le most s tt g) g)

-- ---- below 0
half_is : round binary32 false 1 2 ≡ half
unfolding round of_bits
half_is = refl

-- the sign is set
abbrev minus : Float → Bool
minus nan = false
minus (inf s) = s
minus (fin s m e) = s

odd_minus : (d q k l : ℕ) → T (minus (odd d true q k l))
unfolding odd
odd_minus d zero k l = tt
odd_minus d (suc q) k l = tt

units_minus : (q k : ℕ) → T (minus (units binary32 true q k))
unfolding units
units_minus q k = go (ltb (q * 2 ^ k) (2 ^ 277))
  where
    go : (b : Bool) → T (minus (cond b (odd 25 true q k 149) (inf true)))
    go true = odd_minus 25 q k 149
    go false = tt

round_minus : (a c : ℕ) → T (minus (round binary32 true a c))
round_minus a c = rw (round_is binary32 true a c) (units_minus (kept 24 (a * 2 ^ 149) c) (drop 24 (a * 2 ^ 149) c))

mul_minus : (v : Float) → lt v zero32 ≡ true → T (minus (mul binary32 v most))
unfolding lt mul of_bits
mul_minus nan h = differ (sym h)
mul_minus (inf true) h = tt
mul_minus (inf false) h = differ (sym h)
mul_minus (fin true m e) h = round_minus (m * up e * 255) (down e * 1)
mul_minus (fin false m e) h = absurd (omega (arith, ltb-true (m * up e * 1) (0 * down e) h, zero-mul (down e)))

cut_minus : (x : Float) (last : ℕ) → T (minus x) → cut_of x last ≡ 0
cut_minus nan last h = absurd h
cut_minus (inf true) last h = refl
cut_minus (inf false) last h = absurd h
cut_minus (fin true m e) last h = refl
cut_minus (fin false m e) last h = absurd h

-- what is at most 0.5, or has its sign set, has no whole part once it is rounded
to_half : (s : Bool) (a c : ℕ) → 0 < c → (s ≡ false → a * 2 ≤ c) → cut_of (round binary32 s a c) 255 ≡ 0
unfolding of_bits wholes
to_half true a c C h = cut_minus (round binary32 true a c) 255 (round_minus a c)
to_half false a c C h =
    let g : T (le (round binary32 false a c) half) = rw half_is at (round_mono binary32 a c 1 2 C (omega arith) (omega (arith, h refl))) in
    omega (arith, cut_mono (round binary32 false a c) half 255 tt g)

-- 0.5 at most, less something
sum-minus : (a b c : ℕ) → 0 < c → b * 2 ≤ c → cut_of (sum binary32 true a false b c) 255 ≡ 0
unfolding sum
sum-minus a b c C h = go (ltb a b) (ltb-false a b)
  where
    go : (t : Bool) → (t ≡ false → b ≤ a) → cut_of (cond t (round binary32 false (b - a) c) (round binary32 (ltb b a) (a - b) c)) 255 ≡ 0
    go true g = to_half false (b - a) c C (λ _. omega arith)
    go false g = to_half (ltb b a) (a - b) c C (λ (k : ltb b a ≡ false). omega (arith, ltb-false b a k))

add-minus : (p : Float) → T (minus p) → cut_of (add binary32 p half) 255 ≡ 0
unfolding add of_bits
add-minus nan h = absurd h
add-minus (inf true) h = refl
add-minus (inf false) h = absurd h
add-minus (fin true n d) h = sum-minus (n * up d * 2) (1 * down d) (down d * 2) (omega (arith, down_pos d)) (omega arith)
add-minus (fin false n d) h = absurd h

unit_under : (v : Float) → lt v zero32 ≡ true → unit_byte_of v ≡ 0
unit_under v h = add-minus (mul binary32 v most) (mul_minus v h)

-- ---- so for every float, NaN, infinities and zeros included
unit_ends : (unit_byte_of zero32 ≡ 0) × (unit_byte_of one32 ≡ 255)
unfolding wholes of_bits add mul
unit_ends = (refl, refl)

pub unit_clamped : (v : Float) → unit_byte_of (clamp_of v) ≡ unit_byte_of v
unit_clamped v = go (lt v zero32) (lt one32 v) (unit_under v) (unit_over v)
  where
    go : (b c : Bool) → (b ≡ true → unit_byte_of v ≡ 0) → (c ≡ true → unit_byte_of v ≡ 255) → unit_byte_of (cond b zero32 (cond c one32 v)) ≡ unit_byte_of v
    go true c f g = unit_ends.0 ∙ sym (f refl)
    go false true f g = unit_ends.1 ∙ sym (g refl)
    go false false f g = refl

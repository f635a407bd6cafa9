-- `closest n u` is a whole number nearest to n / u: no other is nearer, and if another is as near it is even. Nothing here is about floats. Assumes nothing.
use mathlib.Core.Path.{◌≡◌, ap, subst}
use mathlib.Core.Bool.{not}
use Prim.Native.Nat.{ℕ, suc, ◌+◌, ◌-◌, ◌*◌, ◌/◌, ◌%◌, ◌≤◌, ◌<◌, compare, Ordering}
use native.Mathlib.Nat.{le_trans, le-div_iff_mul-le, mul-le-mul_right, suc-mul, add-mul, div-add-mod', mod-lt}
use native.Mathlib.Decide.{dec_lt}
use native.Mathlib.Omega.{arith}
use lib.Dec.{T, is_le, compare_is_eq, eqb, leb→le, nleb→lt, eqb→eq, eqb_refl}
use lib.Ieee.{nearest}
use lib.Ieee.Nearest.{closest, nearest-ge}

-- how far two numbers are apart
abbrev pub apart : ℕ → ℕ → ℕ
apart a b = (a - b) + (b - a)

-- q is at most a half away from n / u, and even if it is a half away
pub record Close (n u q : ℕ) : Type 0 where
  pub under : 2 * n ≤ 2 * (q * u) + u
  pub over : 2 * (q * u) ≤ 2 * n + u
  pub even-under : 2 * n ≡ 2 * (q * u) + u → q % 2 ≡ 0
  pub even-over : 2 * (q * u) ≡ 2 * n + u → q % 2 ≡ 0

-- n is w * u + r: whether r is below u's half, at it, or above it
low : (n u w r : ℕ) → w * u + r ≡ n → r * 2 < u → Close n u w
low n u w r e h = record { under = omega arith; over = omega arith; even-under = λ t. absurd (omega arith); even-over = λ t. absurd (omega arith) }

high : (n u w r : ℕ) → w * u + r ≡ n → r < u → u < r * 2 → Close n u (suc w)
high n u w r e l h =
    let s : suc w * u ≡ w * u + u = suc-mul w u in
    record { under = omega arith; over = omega arith; even-under = λ t. absurd (omega arith); even-over = λ t. absurd (omega arith) }

even_sum : (w : ℕ) → (w + w % 2) % 2 ≡ 0
even_sum w = omega arith

half : (n u w r b : ℕ) → w * u + r ≡ n → r * 2 ≡ u → b < 2 → (w + b) % 2 ≡ 0 → Close n u (w + b)
half n u w r b e h l z =
    let s : (w + b) * u ≡ w * u + b * u = add-mul w b u in
    let t : b * u ≤ 1 * u = mul-le-mul_right u (omega arith) in
    record { under = omega arith; over = omega arith; even-under = λ t. z; even-over = λ t. z }

pub close : (n u : ℕ) → 0 < u → Close n u (closest n u)
close n u U = go (compare (r * 2) u) (leb→le (r * 2) u) (nleb→lt (r * 2) u) (eqb→eq (r * 2) u) (λ (e : r * 2 ≡ u). subst (λ (x : ℕ). T (eqb (r * 2) x)) e (eqb_refl (r * 2)))
  where
    w : ℕ
    w = n / u

    r : ℕ
    r = n % u

    go : (o : Ordering) → (T (is_le o) → r * 2 ≤ u) → (T (not (is_le o)) → u < r * 2) → (T (compare_is_eq o) → r * 2 ≡ u) → (r * 2 ≡ u → T (compare_is_eq o)) → Close n u (nearest w o)
    go Ordering.lt le gt eq ne = low n u w r (div-add-mod' n u) (strict (le tt) ne)
      where
        strict : r * 2 ≤ u → (r * 2 ≡ u → ⊥) → r * 2 < u
        strict a b = elim (dec_lt (r * 2) u) [ yes h ↦ h | no h ↦ absurd (b (omega arith)) ]
    go Ordering.eq le gt eq ne = half n u w r (w % 2) (div-add-mod' n u) (eq tt) (mod-lt w (omega arith)) (even_sum w)
    go Ordering.gt le gt eq ne = high n u w r (div-add-mod' n u) (mod-lt n U) (gt tt)

-- ---- so no m is nearer, and if another is as near q is even
pub step : (a b u : ℕ) → a < b → a * u + u ≤ b * u
step a b u h = omega (arith, suc-mul a u, mul-le-mul_right {m = suc a} {n = b} u h)

module _ (n u q : ℕ) (c : Close n u q) where
  pub none-nearer : (m : ℕ) → apart (q * u) n ≤ apart (m * u) n
  none-nearer m = elim (dec_lt q m) [ yes h ↦ omega (arith, step q m u h) | no h ↦ elim (dec_lt m q) [ yes g ↦ omega (arith, step m q u g) | no g ↦ same (omega arith) ] ]
    where
      same : q ≡ m → apart (q * u) n ≤ apart (m * u) n
      same e = omega (arith, ap (λ (x : ℕ). x * u) e)

  pub tie_even : (m : ℕ) → (m ≡ q → ⊥) → apart (m * u) n ≡ apart (q * u) n → q % 2 ≡ 0
  tie_even m d e =
      elim (dec_lt q m) [
        | yes h ↦ c.even-under (omega (arith, step q m u h))
        | no h ↦ elim (dec_lt m q) [ yes g ↦ c.even-over (omega (arith, step m q u g)) | no g ↦ absurd (d (omega arith)) ]
      ]

-- ---- bounds: from a half above an odd m on it is past m, and below that half it is m at most
pub at_least : (n u m : ℕ) → 0 < u → m * u ≤ n → m ≤ closest n u
at_least n u m U h = le_trans ((le-div_iff_mul-le U).1 h) (nearest-ge (n / u) (compare (n % u * 2) u))

pub above_half : (n u m : ℕ) → 0 < u → m % 2 ≡ 1 → 2 * (m * u) + u ≤ 2 * n → m < closest n u
above_half n u m U o h = go (closest n u) (close n u U)
  where
    go : (q : ℕ) → Close n u q → m < q
    go q c =
        elim (dec_lt m q) [
          | yes l ↦ l
          | no l ↦ elim (dec_lt q m) [ yes g ↦ absurd (omega (arith, step q m u g)) | no g ↦ absurd (odd_even (omega arith)) ]
        ]
      where
        odd_even : q ≡ m → ⊥
        odd_even e = omega (arith, c.even-under (omega (arith, ap (λ (x : ℕ). x * u) e)))

pub below_half : (n u m : ℕ) → 0 < u → 2 * n < 2 * (m * u) + u → closest n u ≤ m
below_half n u m U h = go (closest n u) (close n u U)
  where
    go : (q : ℕ) → Close n u q → q ≤ m
    go q c = elim (dec_lt m q) [ yes l ↦ absurd (omega (arith, step m q u l)) | no l ↦ omega arith ]

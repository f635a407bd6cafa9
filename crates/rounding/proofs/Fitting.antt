-- `Held` is what a format holds: each float that fits is a held number of units, each held number of units is a float that fits, and just one for each sign. Assumes nothing.
use mathlib.Core.Path.{◌≡◌, refl, sym, ap, subst, ◌∙◌}
use mathlib.Core.Bool.{Bool, ◌&&◌}
use Prim.Native.Nat.{ℕ, zero, suc, ◌+◌, ◌-◌, ◌*◌, ◌%◌, ◌^◌, ◌≤◌, ◌<◌, zero-le}
use native.Mathlib.Nat.{le_of_eq, le_of_lt, le_of_suc-le-suc, lt_of_lt_of_le, lt_of_le_of_lt, lt_of_not-le, not-le_of_lt, lt_of_mul-lt-mul_right, mul_assoc, mul_comm, mul_right_comm, mul-one, one-mul, zero-mul, mul-lt-mul_of_pos_right}
use native.Mathlib.Decide.{dec_le}
use native.Mathlib.Omega.{arith}
use lib.Dec.{T, leb, ltb, eqb, ltb→lt, leb→le}
use lib.IntN.{ℤ, pos, negsuc}
use lib.Pow.{pow-add, pow_pos, pow-lt}
use lib.Ieee.{Float, fin, Format, prec, emax, low, up, down, odd, fits}
use lib.Ieee.Digits.{back}
use lib.Ieee.Exact.{HasValue, odd_sign}
use lib.Ieee.Fits.{and_l, and_r, odd-fits}
use lib.Ieee.Scale.{overflow}
use Rattle.ieee.proofs.Values.{same_number}
use Rattle.rounding.specs.Rounding.{Held}
use Rattle.rounding.proofs.Gaps.{split}
use Rattle.rounding.proofs.Rounding.{last, last_in, overflow_is, held-under}

-- ---- few digits and any shift, below the end of the values
pub held_of : (f : Format) (d j : ℕ) → d < 2 ^ prec f → d * 2 ^ j < overflow f → Held f (d * 2 ^ j)
held_of f d j h l = elim (dec_le (last f) j) [ yes g ↦ deep g | no g ↦ record { digits = d; shift = j; few = h; in_range = omega arith; is = refl } ]
  where
    deep : last f ≤ j → Held f (d * 2 ^ j)
    deep g = record {
      digits = d * 2 ^ (j - last f);
      shift = last f;
      few = lt_of_mul-lt-mul_right (2 ^ last f) (lt_of_le_of_lt (le_of_eq (sym (split d j (last f) g))) (lt_of_lt_of_le l (le_of_eq (overflow_is f))));
      in_range = last_in f;
      is = split d j (last f) g;
    }

-- ---- 2 ^ e in units of the smallest value is a power of two, if e is not too low
power : (f : Format) (e : ℤ) → down e ≤ 2 ^ low f → (i : ℕ) × (up e * 2 ^ low f ≡ 2 ^ i * down e)
power f (pos j) h = (j + low f, sym (pow-add 2 j (low f)) ∙ sym (mul-one (2 ^ (j + low f))))
power f (negsuc j) h =
    let g : suc j ≤ low f = le_of_suc-le-suc (lt_of_not-le (λ (l : suc (low f) ≤ suc j). not-le_of_lt (pow-lt {i = low f} {j = suc j} l) h)) in
    (low f - suc j, one-mul (2 ^ low f) ∙ ap (λ (x : ℕ). 2 ^ x) (sym (back (low f) (suc j) g)) ∙ pow-add 2 (low f - suc j) (suc j))

-- m * 2 ^ e is m * 2 ^ i units
module _ (f : Format) (m : ℕ) (e : ℤ) (i : ℕ) (h : up e * 2 ^ low f ≡ 2 ^ i * down e) where
  units_are : m * up e * 2 ^ low f ≡ m * 2 ^ i * down e
  units_are = mul_assoc m (up e) (2 ^ low f) ∙ ap (λ (x : ℕ). m * x) h ∙ sym (mul_assoc m (2 ^ i) (down e))

  units_under : m * up e < 2 ^ suc (emax f) * down e → m * 2 ^ i < overflow f
  units_under l =
      lt_of_lt_of_le
      (lt_of_mul-lt-mul_right (down e)
      (lt_of_le_of_lt (le_of_eq (sym units_are)) (lt_of_lt_of_le (mul-lt-mul_of_pos_right l (pow_pos (low f))) (le_of_eq (mul_right_comm (2 ^ suc (emax f)) (down e) (2 ^ low f))))))
      (le_of_eq (mul_comm (2 ^ suc (emax f)) (2 ^ low f) ∙ sym (pow-add 2 (low f) (suc (emax f)))))

pub fits-held : (f : Format) (s : Bool) (m : ℕ) (e : ℤ) → T (fits f (fin s m e)) → (v : ℕ) × Held f v × HasValue (fin s m e) s v (2 ^ low f)
unfolding fits
fits-held f s zero e t =
    (0, record { digits = 0; shift = 0; few = pow_pos (prec f); in_range = lt_of_le_of_lt zero-le (last_in f); is = refl }, (refl, ap (λ (x : ℕ). x * 2 ^ low f) (zero-mul (up e)) ∙ zero-mul (2 ^ low f) ∙ sym (zero-mul (down e))))
fits-held f s (suc m) e t =
    let is_odd = eqb (suc m % 2) 1 in
    let few = ltb (suc m) (2 ^ prec f) in
    let deep = leb (down e) (2 ^ low f) in
    let under = ltb (suc m * up e) (2 ^ suc (emax f) * down e) in
    let c = and_l (is_odd && few && deep) under t in
    let i = power f e (leb→le (down e) (2 ^ low f) (and_r (is_odd && few) deep c)) in
    (suc m * 2 ^ i.0, held_of f (suc m) i.0 (ltb→lt (suc m) (2 ^ prec f) (and_r is_odd few (and_l (is_odd && few) deep c))) (units_under f (suc m) e i.0 i.1 (ltb→lt (suc m * up e) (2 ^ suc (emax f) * down e) (and_r (is_odd && few && deep) under t))), (refl, units_are f (suc m) e i.0 i.1))

pub held_fits : (f : Format) (s : Bool) (v : ℕ) → Held f v → (x : Float) × T (fits f x) × HasValue x s v (2 ^ low f)
held_fits f s v h =
    let d = h.digits in
    let j = h.shift in
    (odd (prec f) s d j (low f), odd-fits f (prec f) s d j h.few (le_of_lt h.few) (subst (λ (x : ℕ). x < overflow f) h.is (held-under f v h)), subst (λ (x : ℕ). HasValue (odd (prec f) s d j (low f)) s x (2 ^ low f)) (sym h.is) (odd_sign (prec f) s d j (low f)))

pub value_only : (f : Format) (x y : Float) (s : Bool) (v : ℕ) → T (fits f x) → T (fits f y) → HasValue x s v (2 ^ low f) → HasValue y s v (2 ^ low f) → x ≡ y
value_only f x y s v p q h k = same_number f x y s v (2 ^ low f) (pow_pos (low f)) h k p q

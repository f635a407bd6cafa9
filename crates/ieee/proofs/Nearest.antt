-- What the definition of the root means: no other value of binary32 is as near to the root of x as `root x` is, and no second value has that property.
-- So a tie never comes up. Assumes nothing.
use Rattle.std.proofs.Common.{◌≡◌, ℕ, zero, suc, ◌+◌, ◌-◌, ◌*◌, ◌/◌, ◌%◌, ◌^◌, ◌<◌, ◌≤◌, Bool, true, false, cond, not, ◌&&◌, T, eqb, ltb, leb, ℤ, sym, refl, ap, ◌∙◌, subst, le_trans, le_of_eq, le_refl, lt_of_lt_of_le, lt_of_le_of_lt, le_of_lt, mul-le-mul_right, mul_assoc, add-mul, mul-le-mul, add_comm, lt_of_mul-lt-mul_right, mul-le-mul_left, mul-lt-mul_of_pos_right, mul-pos, one-mul, lt_of_not-le, le-div_iff_mul-le, mul-one, mul-add, not-le_of_lt, mul_left_comm, arith, leb→le, T_not, pow_pos, pow_mono, pow-add}
use native.Mathlib.Nat.{two-pow-succ}
use native.Mathlib.Decide.{dec_le, dec_lt}
use lib.Arith.{lt_of_le-ne}
use lib.Ieee.{Float, nan, inf, fin, binary32, up, down, size, odd, of_bits, of_fields, to_bits, fits}
use lib.Ieee.Bits.{of_bits-to_bits, of_bits-fits}
use lib.Ieee.Fits.{eq→eqb, and_l, and_r, up_pos, down_pos}
use lib.Ieee.Positive.{first_pos}
use lib.Count.{count_leading_zeros}
use Rattle.ieee.specs.Units.{wholes}
use Rattle.ieee.specs.Root.{root_near, root_wholes, root, Nearer}
use Rattle.ieee.proofs.NearRoot.{Near, root-near, next_square}
use Rattle.ieee.proofs.Shape.{lead, a, t, a_low, a_high, v_is, root_is, digits_low, digits-high, pattern, wholes_odd}

-- ---- no second value
pub nearest_once : (n c y : ℕ) → Nearer n c y → Nearer n y c → c ≡ y
nearest_once n c y p q = elim (dec_lt c y) [ yes h ↦ absurd (clash c y h p q) | no f ↦ elim (dec_lt y c) [ yes h ↦ absurd (clash y c h q p) | no g ↦ omega arith ] ]
  where
    clash : (c y : ℕ) → c < y → Nearer n c y → Nearer n y c → ⊥
    clash c y h p q =
        not-le_of_lt (p.above h) (le_of_lt (subst (λ (x : ℕ). x * x < 4 * (n * 2 ^ 149)) (add_comm y c) (q.under h)))

-- a number that is not negative is known by its units
abbrev pub plus : Float → Bool
plus nan = false
plus (inf s) = false
plus (fin true m e) = false
plus (fin false m e) = true

pub same_plus : (x y : Float) → T (plus x) → T (plus y) → T (fits binary32 x) → T (fits binary32 y) → wholes x ≡ wholes y → x ≡ y
unfolding wholes to_bits
same_plus nan y u v p q h = absurd u
same_plus (inf s) y u v p q h = absurd u
same_plus (fin true m e) y u v p q h = absurd u
same_plus (fin false m e) nan u v p q h = absurd v
same_plus (fin false m e) (inf t) u v p q h = absurd v
same_plus (fin false m e) (fin true l g) u v p q h = absurd v
same_plus (fin false m e) (fin false l g) u v p q h =
    sym (of_bits-to_bits binary32 (fin false m e) p)
    ∙ ap (λ (n : ℕ). of_bits binary32 (0 + (size n - 24) * 8388608 + n / 2 ^ (size n - 24))) h
    ∙ of_bits-to_bits binary32 (fin false l g) q

odd_plus : (q k : ℕ) → T (plus (odd 24 false q k 149))
unfolding odd
odd_plus zero k = tt
odd_plus (suc q) k = tt

-- ---- the values of the format, in units of 2 ^ -149: at most 24 digits, and zeros after them
abbrev Grid : ℕ → Type 0
Grid n = (q : ℕ) × (j : ℕ) × (n ≡ q * 2 ^ j) × (q < 16777216) × (j < 254)

odd_grid : (s : Bool) (q k : ℕ) → q < 16777216 → k < 254 → Grid (wholes (odd 24 s q k 149))
odd_grid s q k h g = (q, k, wholes_odd s q k, h, g)

pick_grid : (b d s : Bool) (y : Float) → (T (not b) → Grid (wholes y)) → Grid (wholes (cond b (cond d (inf s) nan) y))
unfolding wholes
pick_grid true true s y h = (0, 0, refl, omega arith, omega arith)
pick_grid true false s y h = (0, 0, refl, omega arith, omega arith)
pick_grid false d s y h = h tt

fields_grid : (s : Bool) (x d : ℕ) → x < 256 → d < 8388608 → Grid (wholes (of_fields binary32 s x d))
unfolding of_fields
fields_grid s zero d g h = odd_grid s d 0 (omega arith) (omega arith)
fields_grid s (suc x) d g h =
    pick_grid (eqb (suc x) 255) (eqb d 0) s (odd 24 s (8388608 + d) x 149)
    (λ (u : T (not (eqb (suc x) 255))). odd_grid s (8388608 + d) x (omega arith) (lt_of_le-ne (omega arith) (λ (e : x ≡ 254). T_not (eqb (suc x) 255) u (eq→eqb (ap suc e)))))

pub grid : (y : Float) → T (fits binary32 y) → Grid (wholes y)
unfolding of_bits
grid y h =
    let b = to_bits binary32 y in
    subst (λ (x : Float). Grid (wholes x)) (of_bits-to_bits binary32 y h) (fields_grid (leb 2147483648 b) (b % 2147483648 / 8388608) (b % 8388608) (omega arith) (omega arith))

le_of_not_lt : {j k : ℕ} → (j < k → ⊥) → k ≤ j
le_of_not_lt {j} {k} f = elim (dec_le k j) [ yes h ↦ h | no g ↦ absurd (f (lt_of_not-le g)) ]

-- so what is not below 2 ^ 23 * 2 ^ k is a multiple of 2 ^ k
pub multiple : (n k : ℕ) → Grid n → 8388608 * 2 ^ k ≤ n → (w : ℕ) × (n ≡ w * 2 ^ k)
multiple n k g h =
    let q = g.0 in
    let j = g.1 in
    let kj : k ≤ j = le_of_not_lt (λ (l : j < k). omega (arith, g.2, mul-lt-mul_of_pos_right g.3 (pow_pos j), two-pow-succ j, pow_mono {i = suc j} {j = k} l)) in
    let e : (j - k) + k ≡ j = omega arith in
    (q * 2 ^ (j - k), g.2 ∙ ap (λ (x : ℕ). q * 2 ^ x) (sym e) ∙ ap (λ (x : ℕ). q * x) (pow-add 2 (j - k) k) ∙ sym (mul_assoc q (2 ^ (j - k)) (2 ^ k)))

-- ---- the two sides, with p for 2 ^ k
square : (m p : ℕ) → m * p * (m * p) ≡ m * m * (p * p)
square m p = simp (mul_assoc, mul_left_comm)

four : (a p : ℕ) → 4 * (a * p) ≡ 4 * a * p
four a p = sym (mul_assoc 4 a p)

pub double_square : (c : ℕ) → (c + (c + 1)) * (c + (c + 1)) ≡ 4 * (c * c + c) + 1
double_square c = simp (add-mul, mul-add, mul-one, one-mul) (omega arith)

beyond : (a c p y : ℕ) → 0 < p → a ≤ c * c + c → (c + 1) * p ≤ y → 4 * (a * (p * p)) < (c * p + y) * (c * p + y)
beyond a c p y P h k =
    let m = c + (c + 1) in
    let s : 4 * a < m * m = omega (arith, double_square c) in
    let l : m * p ≤ c * p + y = omega (arith, add-mul c (c + 1) p) in
    lt_of_le_of_lt (le_of_eq (four a (p * p))) (lt_of_lt_of_le (mul-lt-mul_of_pos_right s (mul-pos P P)) (le_trans (le_of_eq (sym (square m p))) (mul-le-mul l l)))

below : (a e p y : ℕ) → 0 < p → (e + 1) * (e + 1) < a + (e + 1) → y ≤ e * p → ((e + 1) * p + y) * ((e + 1) * p + y) < 4 * (a * (p * p))
below a e p y P h k =
    let m = e + (e + 1) in
    let s : m * m < 4 * a = omega (arith, double_square e, next_square e) in
    let l : (e + 1) * p + y ≤ m * p = omega (arith, add-mul e (e + 1) p) in
    lt_of_le_of_lt (mul-le-mul l l) (lt_of_le_of_lt (le_of_eq (square m p)) (lt_of_lt_of_le (mul-lt-mul_of_pos_right s (mul-pos P P)) (le_of_eq (sym (four a (p * p))))))

-- Below c * p the values may lie closer than p apart if c is the least number of 24 digits. Then c * p is not above the root.
less : (a c p y : ℕ) → 0 < p → 8388608 ≤ c → 70368744177664 ≤ a → c * c < a + c → (8388608 * p ≤ y → (w : ℕ) × (y ≡ w * p)) → y < c * p → (c * p + y) * (c * p + y) < 4 * (a * (p * p))
less a zero p y P l A n f h = absurd (omega arith)
less a (suc e) p y P l A n f h = elim (dec_le (suc e) 8388608) [ yes g ↦ least (omega arith) | no g ↦ rest (lt_of_not-le g) ]
  where
    least : suc e ≡ 8388608 → (suc e * p + y) * (suc e * p + y) < 4 * (a * (p * p))
    least g =
        let x = suc e * p + y in
        let l : x < 16777216 * p = omega (arith, ap (λ (c : ℕ). c * p) g) in
        let k : x * x < 16777216 * p * (16777216 * p) = lt_of_le_of_lt (mul-le-mul {n₁ = x} {m₁ = x} (le_refl x) (le_of_lt l)) (mul-lt-mul_of_pos_right l (omega arith)) in
        lt_of_lt_of_le k (le_trans (le_of_eq (square 16777216 p)) (le_trans (mul-le-mul_right {m = 281474976710656} {n = 4 * a} (p * p) (omega arith)) (le_of_eq (sym (four a (p * p))))))

    between : (w : ℕ) → y ≡ w * p → e * p < y → ⊥
    between w q g =
        let u : e < w = lt_of_mul-lt-mul_right p (lt_of_lt_of_le g (le_of_eq q)) in
        let v : w < suc e = lt_of_mul-lt-mul_right p (lt_of_le_of_lt (le_of_eq (sym q)) h) in
        omega arith

    rest : 8388608 < suc e → (suc e * p + y) * (suc e * p + y) < 4 * (a * (p * p))
    rest g =
        let s : e + 1 ≡ suc e = omega arith in
        let top : y ≤ e * p = le_of_not_lt (λ (k : e * p < y). let w = f (le_trans (mul-le-mul_right p (omega arith)) (le_of_lt k)) in between w.0 w.1 k) in
        subst (λ (c : ℕ). (c * p + y) * (c * p + y) < 4 * (a * (p * p))) s (below a e p y P (subst (λ (c : ℕ). c * c < a + c) (sym s) n) top)

-- ---- d * 2 ^ k units, with d moved up by z places to 24 digits (`Shape.antt`)
module _ (d k z : ℕ) (lo : 2 ^ 23 ≤ d * 2 ^ z) (hi : d * 2 ^ z < 2 ^ 24) (zz : z ≤ 23) where
  abbrev A : ℕ
  A = d * 2 ^ (z + 23 + (126 + k - z) % 2)

  abbrev h : ℕ
  h = (126 + k - z) / 2

  -- the root's digits, and its units
  abbrev c : ℕ
  c = root_near A

  near : Near A c
  near = root-near A (omega (arith, a_low d k z lo hi zz)) (omega (arith, a_high d k z lo hi zz))

  root_units : wholes (root_wholes (d * 2 ^ k)) ≡ c * 2 ^ h
  root_units = ap wholes (root_is d k z lo hi zz c near) ∙ wholes_odd false c h

  -- which has 24 digits
  pub root-digits : 8388608 ≤ wholes (root_wholes (d * 2 ^ k))
  root-digits =
      le_trans (digits_low d k z lo hi zz c near) (le_trans (le_of_eq (sym (mul-one c))) (le_trans (mul-le-mul_left c (pow_pos h)) (le_of_eq (sym root_units))))

  radicand : 4 * (d * 2 ^ k * 2 ^ 149) ≡ 4 * (A * (2 ^ h * 2 ^ h))
  radicand = ap (λ (x : ℕ). 4 * x) (v_is d k z lo hi zz ∙ ap (λ (x : ℕ). A * x) (pow-add 2 h h))

  module _ (y : ℕ) (g : Grid y) where
    above : c * 2 ^ h < y → 4 * (A * (2 ^ h * 2 ^ h)) < (c * 2 ^ h + y) * (c * 2 ^ h + y)
    above l =
        let w = multiple y h g (le_trans (mul-le-mul_right (2 ^ h) (digits_low d k z lo hi zz c near)) (le_of_lt l)) in
        let u : c < w.0 = lt_of_mul-lt-mul_right (2 ^ h) (lt_of_lt_of_le l (le_of_eq w.1)) in
        let v : c + 1 ≤ w.0 = omega arith in
        beyond A c (2 ^ h) y (pow_pos h) near.1 (le_trans (mul-le-mul_right (2 ^ h) v) (le_of_eq (sym w.1)))

    under : y < c * 2 ^ h → (c * 2 ^ h + y) * (c * 2 ^ h + y) < 4 * (A * (2 ^ h * 2 ^ h))
    under l = less A c (2 ^ h) y (pow_pos h) (digits_low d k z lo hi zz c near) (a_low d k z lo hi zz) near.0 (multiple y h g) l

    pub nearest : Nearer (d * 2 ^ k) (wholes (root_wholes (d * 2 ^ k))) y
    nearest = subst (λ (u : ℕ). Nearer (d * 2 ^ k) u y) (sym root_units) (record { above = λ l. subst (λ (v : ℕ). v < (c * 2 ^ h + y) * (c * 2 ^ h + y)) (sym radicand) (above l); under = λ l. subst (λ (v : ℕ). (c * 2 ^ h + y) * (c * 2 ^ h + y) < v) (sym radicand) (under l) })

  -- a value of the format, and not negative
  pub root_shape : k < 254 → T (fits binary32 (root_wholes (d * 2 ^ k))) × T (plus (root_wholes (d * 2 ^ k)))
  root_shape g =
      let e = root_is d k z lo hi zz c near in
      let p = pattern h c (digits_low d k z lo hi zz c near) (digits-high d k z lo hi zz c near) (omega arith) in
      (subst (λ (x : Float). T (fits binary32 x)) (p ∙ sym e) (of_bits-fits binary32 (h * 8388608 + c)), subst (λ (x : Float). T (plus x)) (sym e) (odd_plus c h))

-- ---- for a number x above 0
positive_units : (m : ℕ) (e : ℤ) → T (fits binary32 (fin false (suc m) e)) → 0 < wholes (fin false (suc m) e)
unfolding wholes fits
positive_units m e t =
    let odd-m = eqb (suc m % 2) 1 in
    let few = ltb (suc m) 16777216 in
    let deep = leb (down e) (2 ^ 149) in
    let h = leb→le (down e) (2 ^ 149) (and_r (odd-m && few) deep (and_l (odd-m && few && deep) (ltb (suc m * up e) (2 ^ 128 * down e)) t)) in
    (le-div_iff_mul-le (down_pos e)).1
    (le_trans (le_of_eq (one-mul (down e))) (le_trans h (mul-le-mul_right {m = 1} {n = suc m * up e} (2 ^ 149) (mul-pos {m = suc m} {n = up e} (omega arith) (up_pos e)))))

module _ (m : ℕ) (e : ℤ) (held : T (fits binary32 (fin false (suc m) e))) where
  abbrev x : Float
  x = fin false (suc m) e

  -- x in units, as q * 2 ^ j
  own : Grid (wholes x)
  own = grid x held

  -- ..and q as `Shape.antt` has it
  up_by : (8 ≤ count_leading_zeros 32 own.0) × (count_leading_zeros 32 own.0 - 8 ≤ 23) × (2 ^ 23 ≤ own.0 * 2 ^ (count_leading_zeros 32 own.0 - 8)) × (own.0 * 2 ^ (count_leading_zeros 32 own.0 - 8) < 2 ^ 24)
  up_by = lead own.0 (first_pos own.0 (2 ^ own.1) (subst (λ (n : ℕ). 0 < n) own.2 (positive_units m e held))) own.3

  -- the root is nearer to the true root than any other value is
  pub root-nearest : (y : Float) → T (fits binary32 y) → Nearer (wholes x) (wholes (root x)) (wholes y)
  unfolding root
  root-nearest y h =
      subst (λ (n : ℕ). Nearer n (wholes (root_wholes n)) (wholes y)) (sym own.2)
      (nearest own.0 own.1 (count_leading_zeros 32 own.0 - 8) up_by.2 up_by.3 up_by.1 (wholes y) (grid y h))

  -- the root of a subnormal number is no subnormal: 2 ^ 23 units are the smallest that is not
  pub root_normal : 8388608 ≤ wholes (root x)
  unfolding root
  root_normal =
      subst (λ (n : ℕ). 8388608 ≤ wholes (root_wholes n)) (sym own.2)
      (root-digits own.0 own.1 (count_leading_zeros 32 own.0 - 8) up_by.2 up_by.3 up_by.1)

  pub root-holds : T (fits binary32 (root x)) × T (plus (root x))
  unfolding root
  root-holds = subst (λ (n : ℕ). T (fits binary32 (root_wholes n)) × T (plus (root_wholes n))) (sym own.2) (root_shape own.0 own.1 (count_leading_zeros 32 own.0 - 8) up_by.2 up_by.3 up_by.1 own.4)

  -- and no second value is: whatever is nearer than any other value is the root
  pub root-only : (r : Float) → T (plus r) → T (fits binary32 r) → ((y : Float) → T (fits binary32 y) → Nearer (wholes x) (wholes r) (wholes y)) → r ≡ root x
  root-only r p h n = same_plus r (root x) p root-holds.1 h root-holds.0 (nearest_once (wholes x) (wholes r) (wholes (root x)) (n (root x) root-holds.0) (root-nearest r h))

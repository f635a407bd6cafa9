-- The whole number nearest to a root: there is one, `root_near` is it, and there is no second. Assumes nothing.
use Rattle.std.proofs.Common.{◌≡◌, ℕ, zero, suc, ◌+◌, ◌*◌, ◌/◌, ◌^◌, ◌<◌, ◌≤◌, Bool, true, false, cond, not, T, leb, le_of_eq, lt_of_lt_of_le, mul_assoc, suc-mul, div-lt_iff_lt-mul, add-mul, mul-le-mul, one-mul, pow-suc, mul-one, mul-suc, mul-add, mul_left_comm, arith, leb→le}
use native.Mathlib.Decide.{dec_lt}
use lib.Dec.{nleb→lt}
use Rattle.ieee.specs.Root.{digit, root_down, nearer, root_near}

-- c is a whole number nearest to the root of a: a lies strictly between the squares of c - 1/2 and c + 1/2
abbrev pub Near : ℕ → ℕ → Type 0
Near a c = (c * c < a + c) × (a ≤ c * c + c)

-- ---- squares
pub next_square : (r : ℕ) → (r + 1) * (r + 1) ≡ r * r + r + r + 1
next_square r = simp (add-mul, mul-add, mul-one, one-mul) (omega arith)

pub square_le : (r : ℕ) → r ≤ 16777216 → r * r ≤ 281474976710656
square_le r h = mul-le-mul h h

twice_square : (r : ℕ) → 2 * r * (2 * r) ≡ 4 * (r * r)
twice_square r = simp (mul_assoc, mul_left_comm) (simp (← mul_assoc))

-- only one of two different numbers is nearest
apart : (a c w : ℕ) → c < w → Near a c → Near a w → ⊥
apart a c zero h p q = omega arith
apart a c (suc v) h p q =
    let g : suc c * c ≤ suc v * v = mul-le-mul h (omega arith) in
    omega (arith, suc-mul c c, mul-suc (suc v) v)

pub near_unique : (a c w : ℕ) → Near a c → Near a w → c ≡ w
near_unique a c w p q = elim (dec_lt c w) [ yes h ↦ absurd (apart a c w h p q) | no f ↦ elim (dec_lt w c) [ yes h ↦ absurd (apart a w c h q p) | no g ↦ omega arith ] ]

-- ---- `root_down` is the whole part
abbrev Down : ℕ → ℕ → Type 0
Down a r = (r * r ≤ a) × (a < (r + 1) * (r + 1))

digit_down : (R a : ℕ) → R * R ≤ a → a < (R + 1 + 1) * (R + 1 + 1) → Down a (digit R a)
digit_down R a h k = go (leb ((R + 1) * (R + 1)) a) (leb→le ((R + 1) * (R + 1)) a) (nleb→lt ((R + 1) * (R + 1)) a)
  where
    go : (b : Bool) → (T b → (R + 1) * (R + 1) ≤ a) → (T (not b) → a < (R + 1) * (R + 1)) → Down a (cond b (R + 1) R)
    go true f g = (f tt, k)
    go false f g = (h, g tt)

pub root_down_lem : (j a : ℕ) → a < 4 ^ j → Down a (root_down j a)
unfolding root_down
root_down_lem zero a h = (omega arith, h)
root_down_lem (suc j) a h =
    let r = root_down j (a / 4) in
    let i = root_down_lem j (a / 4) ((div-lt_iff_lt-mul (omega arith)).1 (lt_of_lt_of_le h (le_of_eq (pow-suc 4 j)))) in
    digit_down (2 * r) a (omega (arith, i.0, twice_square r)) (omega (arith, i.1, twice_square r, next_square r, next_square (2 * r), next_square (2 * r + 1)))

-- ---- `root_near` is nearest
nearer-near : (s a : ℕ) → 0 < a → Down a s → Near a (nearer s a)
nearer-near s a p h = go (leb a (s * s + s)) (leb→le a (s * s + s)) (nleb→lt a (s * s + s))
  where
    pos : (s : ℕ) → Down a s → 0 < s
    pos zero h = absurd (omega arith)
    pos (suc s) h = omega arith

    go : (b : Bool) → (T b → a ≤ s * s + s) → (T (not b) → s * s + s < a) → Near a (cond b s (s + 1))
    go true f g = omega (arith, f tt, pos s h)
    go false f g = omega (arith, g tt, next_square s)

pub root-near : (a : ℕ) → 0 < a → a < 4 ^ 24 → Near a (root_near a)
unfolding root_near
root-near a p h = nearer-near (root_down 24 a) a p (root_down_lem 24 a h)

pub near-is : (a c : ℕ) → 0 < a → a < 4 ^ 24 → Near a c → c ≡ root_near a
near-is a c p h n = near_unique a c (root_near a) n (root-near a p h)

-- What `inside_of` says: three weights of the area's sign. Assumes nothing.
use mathlib.Core.Path.{◌≡◌, refl, ap}
use mathlib.Core.Bool.{Bool, true, false, cond, ◌&&◌, ◌||◌}
use Prim.Native.Nat.{ℕ, suc, ◌<◌}
use native.Mathlib.Omega.{arith}
use borrow.Author.Tests.{ltb-true, leb-true}
use lib.IntN.{ℤ, pos, negsuc, neg_ℤ}
use lib.Signed.{lt_z, le_z}
use mir.Syntax.{w64}
use mir.Val.{SFits, of_z}
use Rattle.laws.proofs.Bools.{and_left, and_right}
use Rattle.flat.specs.Edge.{has_area, agrees_of, inside_of}

pub false_true : {X : Type 0} → false ≡ true → X
false_true {X} e = let z : ◌≡◌ {A = ℕ} 0 1 = cc in absurd (zero_one z)
  where
    zero_one : ◌≡◌ {A = ℕ} 0 1 → ⊥
    zero_one z = omega arith

-- the weights, up to the sign that they share
pub data Signs (area w0 w1 w2 : ℤ) : Type 0 where
  ups : (a0 a1 a2 : ℕ) → w0 ≡ pos a0 → w1 ≡ pos a1 → w2 ≡ pos a2 → lt_z (pos 0) area ≡ true → Signs area w0 w1 w2
  downs : (a0 a1 a2 : ℕ) → w0 ≡ neg_ℤ (pos a0) → w1 ≡ neg_ℤ (pos a1) → w2 ≡ neg_ℤ (pos a2) → lt_z area (pos 0) ≡ true → Signs area w0 w1 w2

up : (w : ℤ) → le_z (pos 0) w ≡ true → (n : ℕ) × (w ≡ pos n)
up (pos n) e = (n, refl)
up (negsuc n) e = false_true e

down : (w : ℤ) → le_z w (pos 0) ≡ true → (n : ℕ) × (w ≡ neg_ℤ (pos n))
down (pos n) e = (0, ap pos (omega (arith, leb-true n 0 e)))
down (negsuc n) e = (suc n, refl)

pub signs : (area w0 w1 w2 : ℤ) → inside_of area w0 w1 w2 ≡ true → Signs area w0 w1 w2
unfolding inside_of has_area agrees_of
signs area w0 w1 w2 e =
    let all = and_right (has_area area) (agrees_of area w0 && (agrees_of area w1 && agrees_of area w2)) e in
    let last = and_right (agrees_of area w0) (agrees_of area w1 && agrees_of area w2) all in
    go (lt_z (pos 0) area) refl
    (and_left (has_area area) (agrees_of area w0 && (agrees_of area w1 && agrees_of area w2)) e)
    (and_left (agrees_of area w0) (agrees_of area w1 && agrees_of area w2) all)
    (and_left (agrees_of area w1) (agrees_of area w2) last)
    (and_right (agrees_of area w1) (agrees_of area w2) last)
  where
    go : (t : Bool) → lt_z (pos 0) area ≡ t → (t || lt_z area (pos 0)) ≡ true
        → cond t (le_z (pos 0) w0) (le_z w0 (pos 0)) ≡ true → cond t (le_z (pos 0) w1) (le_z w1 (pos 0)) ≡ true → cond t (le_z (pos 0) w2) (le_z w2 (pos 0)) ≡ true
        → Signs area w0 w1 w2
    go true p h h0 h1 h2 =
        let (a0, e0) = up w0 h0 in
        let (a1, e1) = up w1 h1 in
        let (a2, e2) = up w2 h2 in
        ups a0 a1 a2 e0 e1 e2 p
    go false p h h0 h1 h2 =
        let (a0, e0) = down w0 h0 in
        let (a1, e1) = down w1 h1 in
        let (a2, e2) = down w2 h2 in
        downs a0 a1 a2 e0 e1 e2 h

-- the bits of such an area are not all 0
positive : (area : ℤ) → SFits w64 area → lt_z (pos 0) area ≡ true → 0 < of_z w64 area
positive (pos n) f e = ltb-true 0 n e
positive (negsuc n) f e = false_true e

negative : (area : ℤ) → SFits w64 area → lt_z area (pos 0) ≡ true → 0 < of_z w64 area
negative (pos n) f e = absurd (none n (ltb-true n 0 e))
  where
    none : (n : ℕ) → n < 0 → ⊥
    none n h = omega arith
negative (negsuc n) f e = omega (arith, f.sfits)

pub divisor : (area w0 w1 w2 : ℤ) → SFits w64 area → Signs area w0 w1 w2 → 0 < of_z w64 area
divisor area w0 w1 w2 f (ups a0 a1 a2 e0 e1 e2 p) = positive area f p
divisor area w0 w1 w2 f (downs a0 a1 a2 e0 e1 e2 p) = negative area f p

-- the three edges, one by one, if the area is positive
module _ (area w0 w1 w2 : ℤ) (up : lt_z (pos 0) area ≡ true) where
  pub inside_yes : le_z (pos 0) w0 ≡ true → le_z (pos 0) w1 ≡ true → le_z (pos 0) w2 ≡ true → inside_of area w0 w1 w2 ≡ true
  unfolding inside_of has_area agrees_of
  inside_yes h0 h1 h2 = rw (up, h0, h1, h2)

  pub inside_no0 : le_z (pos 0) w0 ≡ false → inside_of area w0 w1 w2 ≡ false
  unfolding inside_of has_area agrees_of
  inside_no0 h0 = rw (up, h0)

  pub inside_no1 : le_z (pos 0) w0 ≡ true → le_z (pos 0) w1 ≡ false → inside_of area w0 w1 w2 ≡ false
  unfolding inside_of has_area agrees_of
  inside_no1 h0 h1 = rw (up, h0, h1)

  pub inside_no2 : le_z (pos 0) w0 ≡ true → le_z (pos 0) w1 ≡ true → le_z (pos 0) w2 ≡ false → inside_of area w0 w1 w2 ≡ false
  unfolding inside_of has_area agrees_of
  inside_no2 h0 h1 h2 = rw (up, h0, h1, h2)

-- The two ends of a box of pixels, from the signed roundings. Assumes nothing.
use Rattle.std.proofs.Common.{◌≡◌, ℕ, zero, suc, ◌+◌, ◌-◌, ◌*◌, ◌/◌, ◌^◌, ◌<◌, ◌≤◌, min, Bool, true, false, ◌&&◌, ◌||◌, T, eqb, ltb, pos, neg_ℤ, sym, refl, ap, ◌∙◌, subst, le_of_eq, le_of_lt, le-div_iff_mul-le, add-one, arith, eqb→eq, ltb-false, ltb-true, eqb-true}
use native.Mathlib.Nat.{div-eq_of_lt}
use borrow.Author.Tests.{eqb-false}
use lib.Arith.{lt_of_le-ne}
use lib.IntN.{suc_ℤ}
use lib.Ieee.{Float, nan, inf, fin, up, down, le, neg, of_bits}
use lib.Ieee.Fits.{and_l, and_r, down_pos}
use Rattle.ieee.specs.Units.{wholes}
use Rattle.ieee.specs.Units.{units_down, units_up}
use Rattle.ieee.specs.Casts.{cut_of, cut_up_of, floor_of, ceil_of}
use Rattle.ieee.specs.Box.{nat_of}
use Rattle.ieee.proofs.Compare.{differ}
use Rattle.ieee.proofs.Cuts.{whole_part, minus_one}

none : (n : ℕ) → 0 ≡ nat_of (neg_ℤ (pos n))
none zero = refl
none (suc n) = refl

pub first-is : (x : Float) → cut_of x (2 ^ 31 - 1) ≡ nat_of (floor_of x)
first-is nan = refl
first-is (inf true) = refl
first-is (inf false) = refl
first-is (fin true m e) = none (min (units_up (wholes (fin true m e))) (2 ^ 31))
first-is (fin false m e) = refl

-- ---- at most -1, and above it
past-none : (n : ℕ) → 1 ≤ n → 0 ≡ nat_of (suc_ℤ (neg_ℤ (pos n)))
past-none zero h = absurd (omega arith)
past-none (suc zero) h = refl
past-none (suc (suc n)) h = refl

either : (p q : Bool) {A : Type 0} → (p ≡ true → A) → (q ≡ true → A) → (p || (q && true)) ≡ true → A
either true q f g h = f refl
either false true f g h = g refl
either false false f g h = differ (sym h)

neither : (p q : Bool) → (p || (q && true)) ≡ false → (p ≡ false) × (q ≡ false)
neither true q h = differ h
neither false true h = differ h
neither false false h = (refl, refl)

either_le : (a d : ℕ) → (ltb d a || (eqb a d && true)) ≡ true → d ≤ a
either_le a d h = either (ltb d a) (eqb a d) (λ k. le_of_lt (ltb-true d a k)) (λ k. le_of_eq (sym (eqb-true a d k))) h

neither_lt : (a d : ℕ) → (ltb d a || (eqb a d && true)) ≡ false → a < d
neither_lt a d h = let k = neither (ltb d a) (eqb a d) h in lt_of_le-ne (ltb-false d a k.0) (eqb-false a d k.1)

some : (a : ℕ) → 1 ≤ a → 1 ≤ min a (2 ^ 31)
some a h = omega arith

pub past-under : (x : Float) → le x minus_one ≡ true → 0 ≡ nat_of (suc_ℤ (ceil_of x))
unfolding le of_bits neg
past-under nan h = differ (sym h)
past-under (inf true) h = refl
past-under (inf false) h = differ (sym h)
past-under (fin true m e) h =
    let g : down e ≤ m * up e = omega (arith, either_le (m * up e * 1) (1 * down e) h) in
    let k : 1 ≤ m * up e / down e = (le-div_iff_mul-le (down_pos e)).1 (omega arith) in
    past-none (min (units_down (wholes (fin true m e))) (2 ^ 31)) (some (units_down (wholes (fin true m e))) (subst (λ (n : ℕ). 1 ≤ n) (sym (whole_part true m e)) k))
past-under (fin false m e) h =
    let t : T (eqb (m * up e * 1) (1 * down e) && eqb (m * up e * 1) 0) = subst T (sym h) tt in
    let p = eqb→eq (m * up e * 1) (1 * down e) (and_l (eqb (m * up e * 1) (1 * down e)) (eqb (m * up e * 1) 0) t) in
    let q = eqb→eq (m * up e * 1) 0 (and_r (eqb (m * up e * 1) (1 * down e)) (eqb (m * up e * 1) 0) t) in
    absurd (omega (arith, p, q, down_pos e))

pub past-over : (x : Float) → le x minus_one ≡ false → cut_up_of x (2 ^ 31 - 1) + 1 ≡ nat_of (suc_ℤ (ceil_of x))
unfolding le of_bits neg
past-over nan h = refl
past-over (inf true) h = differ h
past-over (inf false) h = refl
past-over (fin true m e) h =
    let g : m * up e < down e = omega (arith, neither_lt (m * up e * 1) (1 * down e) h) in
    ap (λ (n : ℕ). nat_of (suc_ℤ (neg_ℤ (pos (min n (2 ^ 31)))))) (sym (whole_part true m e ∙ div-eq_of_lt g))
past-over (fin false m e) h = add-one (min (units_up (wholes (fin false m e))) (2 ^ 31 - 1))

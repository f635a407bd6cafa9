-- `ieee::root::sqrt` meets its contract: by cases on x, and by `root_bits` if x is a number above 0. Assumes nothing.
use Rattle.std.proofs.Common.{◌≡◌, ℕ, zero, suc, ◌*◌, ◌%◌, ◌<◌, ◌≤◌, Bool, true, false, T, eqb, sym, refl, ap, ◌∙◌, subst, mul-pos, zero-mul, arith, eqb→eq, ltb-false, ltb-true, le-ltb}
use lib.Ieee.{Float, nan, inf, fin, binary32, up, down, of_bits, to_bits, lt, eq, level, fits}
use lib.Ieee.Bits.{of_bits-to_bits, nan_bits_above}
use lib.Ieee.Fits.{and_l, up_pos}
use Rattle.ieee.specs.Root.{root, root_wholes}
use Rattle.ieee.specs.Units.{zero32, wholes}
use Rattle.ieee.proofs.Above.{top, range}
use Rattle.ieee.proofs.Compare.{differ, number}
use Rattle.ieee.proofs.root.sqrt.Goals as goal
use Rattle.ieee.proofs.root.sqrt.Goals.{Start, Then-x-2}

-- ---- the root by cases
root-number : (x : Float) → lt zero32 x ≡ true → lt x top ≡ true → root_wholes (wholes x) ≡ root x
unfolding lt root of_bits
root-number nan h k = differ (sym h)
root-number (inf true) h k = differ (sym h)
root-number (inf false) h k = differ (sym k)
root-number (fin true m e) h k = differ (sym h)
root-number (fin false zero e) h k = absurd (omega (arith, ltb-true (0 * down e) (0 * up e * 1) h, zero-mul (up e), zero-mul (down e)))
root-number (fin false (suc m) e) h k = refl

root_endless : (x : Float) → lt zero32 x ≡ true → lt x top ≡ false → x ≡ root x
unfolding lt root of_bits
root_endless nan h k = refl
root_endless (inf true) h k = differ (sym h)
root_endless (inf false) h k = refl
root_endless (fin s m e) h k = differ k

root-zero : (x : Float) → eq x zero32 ≡ true → x ≡ root x
unfolding eq root of_bits
root-zero nan h = refl
root-zero (inf true) h = differ (sym h)
root-zero (inf false) h = refl
root-zero (fin s zero e) h = refl
root-zero (fin s (suc m) e) h =
    let g = eqb→eq (suc m * up e * 1) (0 * down e) (and_l (eqb (suc m * up e * 1) (0 * down e)) _ (subst T (sym h) tt)) in
    absurd (omega (arith, mul-pos {m = suc m} {n = up e} (omega arith) (up_pos e), zero-mul (down e)))

level_zero : (s : Bool) (a b : ℕ) → a ≡ 0 → b ≡ 0 → level s a false b ≡ true
level_zero true a b p q = simp (p, q)
level_zero false a b p q = simp (p, q)

root_none : (x : Float) → lt zero32 x ≡ false → eq x zero32 ≡ false → nan ≡ root x
unfolding lt eq root of_bits
root_none nan h k = refl
root_none (inf true) h k = refl
root_none (inf false) h k = differ h
root_none (fin s zero e) h k = differ (sym (level_zero s (0 * up e * 1) (0 * down e) (omega (arith, zero-mul (up e))) (zero-mul (down e))) ∙ k)
root_none (fin true (suc m) e) h k = refl
root_none (fin false (suc m) e) h k = absurd (omega (arith, ltb-false (0 * down e) (suc m * up e * 1) h, mul-pos {m = suc m} {n = up e} (omega arith) (up_pos e), zero-mul (down e)))

-- ---- the needs
held : (c : Start) → T (fits binary32 c.args.x)
held c = subst T (sym c.well_formed.0.1) tt

-- its pattern, if x is a number above 0
patterned : (c : Then-x-2) → (0 < to_bits binary32 c.args.x) × (to_bits binary32 c.args.x < 0x7f80_0000)
patterned c =
    let e = of_bits-to_bits binary32 c.args.x (held c.before.before) in
    range (to_bits binary32 c.args.x) (ap (λ (y : Float). lt zero32 y) e ∙ c.if-x.true) (ap (λ (y : Float). lt y top) e ∙ c.if-x-2.true)

pub float_to_bits-b : goal.float_to_bits-b
float_to_bits-b c = number zero32 c.args.x c.if-x.true

pub guess-requires : goal.guess-requires
guess-requires c = (number zero32 c.args.x c.if-x.true, (patterned c).1)

pub root_bits-requires : goal.root_bits-requires
root_bits-requires c = patterned c.before

pub float_from_bits-result : goal.float_from_bits-result
float_from_bits-result c = let r = c.root_bits.result in
    let h : r % 2147483648 ≤ 0x7f80_0000 = omega (arith, c.root_bits.ensures.0) in
    rw (nan_bits_above binary32 r, le-ltb (0x7f80_0000) (r % 2147483648) h) tt

pub returns-then-x-2 : goal.returns-then-x-2
returns-then-x-2 c = c.root_bits.ensures.1 ∙ ap (λ (y : Float). root_wholes (wholes y)) (of_bits-to_bits binary32 c.args.x (held c.before.before.before.before)) ∙ root-number c.args.x c.if-x.true c.if-x-2.true

pub returns-then-x : goal.returns-then-x
returns-then-x c = root_endless c.args.x c.if-x.true c.if-x-2.false

pub returns-then-x-3 : goal.returns-then-x-3
returns-then-x-3 c = root-zero c.args.x c.if-x-3.true

pub returns-else-x-3 : goal.returns-else-x-3
unfolding of_bits
returns-else-x-3 c = root_none c.args.x c.if-x.false c.if-x-3.false

-- Which bit patterns stand for numbers above 0: those from 1 to before the infinity's. Assumes nothing.
use Rattle.std.proofs.Common.{◌≡◌, ℕ, zero, suc, ◌+◌, ◌/◌, ◌%◌, ◌<◌, ◌≤◌, Bool, true, false, cond, eqb, sym, refl, ap, ◌∙◌, lt_of_not-le, arith, le-leb}
use native.Mathlib.Decide.{dec_le}
use lib.Ieee.{Float, nan, inf, binary32, odd, of_fields, of_bits, lt}
use Rattle.ieee.specs.Units.{zero32}
use Rattle.ieee.proofs.Compare.{differ}
use Rattle.ieee.proofs.Shape.{positive}

-- the infinity
abbrev pub top : Float
top = of_bits binary32 0x7f80_0000

-- none with the sign set
odd_negative : (q x : ℕ) → lt zero32 (odd 24 true q x 149) ≡ false
unfolding lt odd of_bits
odd_negative zero x = refl
odd_negative (suc q) x = refl

pick_negative : (b d : Bool) (y : Float) → lt zero32 y ≡ false → lt zero32 (cond b (cond d (inf true) nan) y) ≡ false
unfolding lt of_bits
pick_negative true true y h = refl
pick_negative true false y h = refl
pick_negative false d y h = h

fields_negative : (x t : ℕ) → lt zero32 (of_fields binary32 true x t) ≡ false
unfolding of_fields
fields_negative zero t = odd_negative t 0
fields_negative (suc x) t = pick_negative (eqb (suc x) 255) (eqb t 0) (odd 24 true (8388608 + t) x 149) (odd_negative (8388608 + t) x)

negative : (b : ℕ) → 2147483648 ≤ b → lt zero32 (of_bits binary32 b) ≡ false
unfolding of_bits
negative b h =
    ap (λ (s : Bool). lt zero32 (of_fields binary32 s (b % 2147483648 / 8388608) (b % 8388608))) (le-leb 2147483648 b h)
    ∙ fields_negative (b % 2147483648 / 8388608) (b % 8388608)

-- and none from the infinity's up
pick_endless : (d : Bool) → lt (cond d (inf false) nan) top ≡ false
unfolding lt of_bits
pick_endless true = refl
pick_endless false = refl

endless : (b : ℕ) → 0x7f80_0000 ≤ b → b < 2147483648 → lt (of_bits binary32 b) top ≡ false
unfolding of_fields
endless b h k =
    let e : b / 8388608 ≡ 255 = omega arith in
    ap (λ (y : Float). lt y top) (positive b k ∙ ap (λ (x : ℕ). of_fields binary32 false x (b % 8388608)) e)
    ∙ pick_endless (eqb (b % 8388608) 0)

nothing : lt zero32 zero32 ≡ false
unfolding lt of_bits
nothing = refl

pub range : (b : ℕ) → lt zero32 (of_bits binary32 b) ≡ true → lt (of_bits binary32 b) top ≡ true → (0 < b) × (b < 0x7f80_0000)
range b h k = (above b h, lt_of_not-le (λ (g : 0x7f80_0000 ≤ b). past g))
  where
    above : (b : ℕ) → lt zero32 (of_bits binary32 b) ≡ true → 0 < b
    above zero h = differ (sym h ∙ nothing)
    above (suc b) h = omega arith

    past : 0x7f80_0000 ≤ b → ⊥
    past g = elim (dec_le 2147483648 b) [ yes l ↦ differ (sym h ∙ negative b l) | no f ↦ differ (sym k ∙ endless b g (lt_of_not-le f)) ]

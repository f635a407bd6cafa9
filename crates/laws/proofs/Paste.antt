-- A loop that copies into a lent buffer builds a `paste` (`lib.Seq`): `paste d at s i` is d with the first i elements of s from place `at` on.
-- One turn of any such loop is `paste_turn`, whatever the source of the elements is. Assumes nothing.
use Prim.Native.Nat.{ℕ, ◌+◌, ◌-◌, ◌≤◌, ◌<◌}
use mathlib.Core.Path.{◌≡◌, sym, ◌∙◌}
use mathlib.Core.List.{List}
use native.Mathlib.Numerals.{add-one}
use native.Mathlib.Omega.{arith}
use lib.ListN.{length, get_or, set, drop, replicate, length-drop, get_or-replicate, length-replicate}
use lib.Seq.{paste, paste-suc, drop-paste, get_or-drop}

-- a turn's store takes the paste of i elements to that of one more
pub paste_turn : {A : Type 0} (z : A) (l d : List A) (at : ℕ) (s : List A) (i : ℕ) (v : A) → l ≡ paste d at s i → v ≡ get_or s i z → at + i < length d → i < length s
    → set l (at + i) v ≡ paste d at s (i + 1)
paste_turn z l d at s i v e f h k = rw (e, f, add-one i) (paste-suc d at s i z h k)

-- a turn that writes zero
pub zero_turn : (l d : List ℕ) (at n i : ℕ) → l ≡ paste d at (replicate n 0) i → at + n ≤ length d → i < n → set l (at + i) 0 ≡ paste d at (replicate n 0) (i + 1)
zero_turn l d at n i e h k = paste_turn 0 l d at (replicate n 0) i 0 e (sym (get_or-replicate n i 0 0 k)) (omega arith) (omega (arith, length-replicate {A = ℕ} n 0))

-- what lies from an index on, past all that has been pasted, is as it was
get_d_past : (l d : List ℕ) (at : ℕ) (s : List ℕ) (i j : ℕ) → l ≡ paste d at s i → at ≤ length d → i ≤ length s → at + i ≤ j → get_or l j 0 ≡ get_or d j 0
get_d_past l d at s i j e h k m =
    let q : j ≡ at + i + (j - (at + i)) = omega arith in
    rw (e, q, ← get_or-drop (at + i) (paste d at s i) (j - (at + i)) 0, drop-paste d at s i, get_or-drop)

-- a turn that moves an element down
pub down_turn : (l d : List ℕ) (to from i n : ℕ) → l ≡ paste d to (drop from d) i → to ≤ from → from + n ≤ length d → i < n
    → set l (to + i) (get_or l (from + i) 0) ≡ paste d to (drop from d) (i + 1)
down_turn l d to from i n e h k m =
    let long : length (drop from d) ≡ length d - from = length-drop from d in
    paste_turn 0 l d to (drop from d) i (get_or l (from + i) 0) e
    (get_d_past l d to (drop from d) i (from + i) e (omega arith) (omega arith) (omega arith) ∙ sym (get_or-drop from d i 0)) (omega arith) (omega arith)

-- Words written, then zeros up to an old end that lies further: `over`, as two pastes. Assumes nothing.
use Prim.Native.Nat.{ℕ, ◌+◌, ◌-◌, ◌≤◌, ◌<◌, max}
use mathlib.Core.Path.{◌≡◌, sym, ap, ◌∙◌}
use mathlib.Core.List.{List, ◌++◌, append_assoc}
use native.Mathlib.Omega.{arith}
use lib.ListN.{length, drop, take, replicate, length-append, length-replicate}
use lib.Seq.{paste, length-take-le, take-paste, drop-paste, take-length, take_all, drop-drop}
use Rattle.store.specs.Slots.{over}

module _ (d ws : List ℕ) (at old : ℕ) (fits : at + length ws ≤ length d) where
  long : length (take at d ++ ws) ≡ at + length ws
  long = length-append (take at d) ws ∙ ap (λ (n : ℕ). n + length ws) (length-take-le at d (omega arith))

  -- nothing to make zero
  pub last_zero : at + length ws < old
      → paste (paste d at ws (length ws)) (at + length ws) (replicate (old - (at + length ws)) 0) (old - (at + length ws)) ≡ over old (take at d ++ ws) d
  last_zero h =
      let end : ℕ = at + length ws in
      let n : ℕ = old - end in
      let w : List ℕ = paste d at ws (length ws) in
      let front : take end w ≡ take at d ++ ws = take-paste d at ws (length ws) (omega arith) (omega arith) ∙ ap (λ (l : List ℕ). take at d ++ l) (take-length ws) in
      let z : List ℕ = replicate n 0 in
      let zeros : take n z ≡ z = take_all n z (omega (arith, length-replicate {A = ℕ} n 0)) in
      let upto : max old end ≡ end + n = omega arith in
      let back : drop (end + n) w ≡ drop (end + n) d = sym (drop-drop n end w) ∙ ap (drop n) (drop-paste d at ws (length ws) (omega arith) (omega arith)) ∙ drop-drop n end d in
      rw (front, zeros, back, long, upto, append_assoc)

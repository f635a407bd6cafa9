-- `ieee::cast::negated` meets its contract. Assumes nothing.
use Rattle.std.proofs.Common.{◌≡◌, ℕ, zero, suc, ◌-◌, ◌≤◌, ℤ, pos, negsuc, ◌-ℤ◌, neg_ℤ, sym, refl, ap, ◌∙◌, subst, zero-add, arith, w32, SFits, to_z}
use mir.ValLaws.{to_z-of_z, to_z_pos}
use Rattle.ieee.proofs.cast.negated.Goals as goal

one_less : (k : ℕ) → negsuc 0 -ℤ pos k ≡ negsuc k
one_less zero = refl
one_less (suc j) = ap (λ (n : ℕ). negsuc (suc n)) (zero-add j)

negative : (n : ℕ) → (n ≡ 0 → ⊥) → negsuc (n - 1) ≡ neg_ℤ (pos n)
negative zero h = absurd (h refl)
negative (suc k) h = ap negsuc (omega arith)

-- -1 - (n - 1), as the machine has it
module _ (n : ℕ) (h : n ≤ 2147483648) (k : n ≡ 0 → ⊥) where
  read : to_z w32 (n - 1) ≡ pos (n - 1)
  read = to_z_pos w32 (n - 1) (omega arith)

  value : negsuc 0 -ℤ to_z w32 (n - 1) ≡ negsuc (n - 1)
  value = ap (λ (z : ℤ). negsuc 0 -ℤ z) read ∙ one_less (n - 1)

  in_range : SFits w32 (negsuc 0 -ℤ to_z w32 (n - 1))
  in_range = subst (SFits w32) (sym value) (record { sfits = omega arith })

pub returns-then-n-eq0 : goal.returns-then-n-eq0
returns-then-n-eq0 c = sym (ap (λ (n : ℕ). neg_ℤ (pos n)) c.if-n-eq0.true)

pub overflow_sub-result-2 : goal.overflow_sub-result-2
overflow_sub-result-2 c = in_range c.args.n c.requires c.if-n-eq0.false

pub returns : goal.returns
returns c = let n = c.args.n in
    to_z-of_z w32 _ (in_range n c.requires c.if-n-eq0.false) ∙ value n c.requires c.if-n-eq0.false ∙ negative n c.if-n-eq0.false

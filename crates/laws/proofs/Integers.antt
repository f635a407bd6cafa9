-- ℤ is a commutative ring: what `lib.IntN` lacks of it. Assumes nothing.
use mathlib.Core.Path.{◌≡◌, refl, sym, ap, ◌∙◌}
use Prim.Native.Nat.{zero, suc}
use lib.IntN.{ℤ, pos, negsuc, neg_ℤ, ◌+ℤ◌, ◌-ℤ◌, ◌*ℤ◌, +ℤ_assoc, +ℤ_comm, +ℤ_idl, +ℤ_invl, neg_ℤ-+ℤ, +ℤ-neg_ℤ_cancel, -ℤ-+ℤ_cancel, zero-*ℤ, *ℤ_comm, suc_ℤ-*ℤ, pred_ℤ-*ℤ}

pub add_left_comm : (a b c : ℤ) → a +ℤ (b +ℤ c) ≡ b +ℤ (a +ℤ c)
add_left_comm a b c = sym (+ℤ_assoc a b c) ∙ ap (λ (x : ℤ). x +ℤ c) (+ℤ_comm a b) ∙ +ℤ_assoc b a c

pub add_swap : (a b c d : ℤ) → (a +ℤ b) +ℤ (c +ℤ d) ≡ (a +ℤ c) +ℤ (b +ℤ d)
add_swap a b c d =
    +ℤ_assoc a b (c +ℤ d) ∙ ap (λ (x : ℤ). a +ℤ x) (add_left_comm b c d) ∙ sym (+ℤ_assoc a c (b +ℤ d))

both : {a b c d : ℤ} → a ≡ b → c ≡ d → a +ℤ c ≡ b +ℤ d
both p q = cc

pub distrib : (a b c : ℤ) → a *ℤ (b +ℤ c) ≡ a *ℤ b +ℤ a *ℤ c
distrib (pos zero) b c = zero-*ℤ (b +ℤ c) ∙ sym (both (zero-*ℤ b) (zero-*ℤ c))
distrib (pos (suc n)) b c =
    suc_ℤ-*ℤ (pos n) (b +ℤ c) ∙ ap (λ (x : ℤ). x +ℤ (b +ℤ c)) (distrib (pos n) b c)
    ∙ add_swap (pos n *ℤ b) (pos n *ℤ c) b c ∙ sym (both (suc_ℤ-*ℤ (pos n) b) (suc_ℤ-*ℤ (pos n) c))
distrib (negsuc zero) b c =
    pred_ℤ-*ℤ (pos zero) (b +ℤ c) ∙ both (zero-*ℤ (b +ℤ c)) (neg_ℤ-+ℤ b c) ∙ add_swap (pos zero) (pos zero) (neg_ℤ b) (neg_ℤ c)
    ∙ sym (both (pred_ℤ-*ℤ (pos zero) b ∙ both (zero-*ℤ b) refl) (pred_ℤ-*ℤ (pos zero) c ∙ both (zero-*ℤ c) refl))
distrib (negsuc (suc n)) b c =
    pred_ℤ-*ℤ (negsuc n) (b +ℤ c) ∙ both (distrib (negsuc n) b c) (neg_ℤ-+ℤ b c)
    ∙ add_swap (negsuc n *ℤ b) (negsuc n *ℤ c) (neg_ℤ b) (neg_ℤ c) ∙ sym (both (pred_ℤ-*ℤ (negsuc n) b) (pred_ℤ-*ℤ (negsuc n) c))

pub distrib_r : (a b c : ℤ) → (a +ℤ b) *ℤ c ≡ a *ℤ c +ℤ b *ℤ c
distrib_r a b c = *ℤ_comm (a +ℤ b) c ∙ distrib c a b ∙ both (*ℤ_comm c a) (*ℤ_comm c b)

-- two numbers whose sum is 0
pub neg_of-sum : (a b : ℤ) → a +ℤ b ≡ pos 0 → a ≡ neg_ℤ b
neg_of-sum a b e = sym (+ℤ-neg_ℤ_cancel a b) ∙ ap (λ (x : ℤ). x -ℤ b) e ∙ +ℤ_idl (neg_ℤ b)

pub eq_of_sub : (a b : ℤ) → a -ℤ b ≡ pos 0 → a ≡ b
eq_of_sub a b e = sym (-ℤ-+ℤ_cancel a b) ∙ ap (λ (x : ℤ). x +ℤ b) e ∙ +ℤ_idl b

pub neg_mul : (a b : ℤ) → neg_ℤ a *ℤ b ≡ neg_ℤ (a *ℤ b)
neg_mul a b = neg_of-sum (neg_ℤ a *ℤ b) (a *ℤ b) (sym (distrib_r (neg_ℤ a) a b) ∙ ap (λ (x : ℤ). x *ℤ b) (+ℤ_invl a) ∙ zero-*ℤ b)

pub mul_assoc : (a b c : ℤ) → (a *ℤ b) *ℤ c ≡ a *ℤ (b *ℤ c)
mul_assoc (pos zero) b c = ap (λ (x : ℤ). x *ℤ c) (zero-*ℤ b) ∙ zero-*ℤ c ∙ sym (zero-*ℤ (b *ℤ c))
mul_assoc (pos (suc n)) b c =
    ap (λ (x : ℤ). x *ℤ c) (suc_ℤ-*ℤ (pos n) b) ∙ distrib_r (pos n *ℤ b) b c
    ∙ ap (λ (x : ℤ). x +ℤ b *ℤ c) (mul_assoc (pos n) b c) ∙ sym (suc_ℤ-*ℤ (pos n) (b *ℤ c))
mul_assoc (negsuc zero) b c =
    ap (λ (x : ℤ). x *ℤ c) (pred_ℤ-*ℤ (pos zero) b) ∙ distrib_r (pos zero *ℤ b) (neg_ℤ b) c
    ∙ both (ap (λ (x : ℤ). x *ℤ c) (zero-*ℤ b) ∙ zero-*ℤ c ∙ sym (zero-*ℤ (b *ℤ c))) (neg_mul b c) ∙ sym (pred_ℤ-*ℤ (pos zero) (b *ℤ c))
mul_assoc (negsuc (suc n)) b c =
    ap (λ (x : ℤ). x *ℤ c) (pred_ℤ-*ℤ (negsuc n) b) ∙ distrib_r (negsuc n *ℤ b) (neg_ℤ b) c
    ∙ both (mul_assoc (negsuc n) b c) (neg_mul b c) ∙ sym (pred_ℤ-*ℤ (negsuc n) (b *ℤ c))

pub mul_left_comm : (a b c : ℤ) → a *ℤ (b *ℤ c) ≡ b *ℤ (a *ℤ c)
mul_left_comm a b c = sym (mul_assoc a b c) ∙ ap (λ (x : ℤ). x *ℤ c) (*ℤ_comm a b) ∙ mul_assoc b a c

pub minus_one : (a : ℤ) → negsuc zero *ℤ a ≡ neg_ℤ a
minus_one a = pred_ℤ-*ℤ (pos zero) a ∙ both (zero-*ℤ a) refl ∙ +ℤ_idl (neg_ℤ a)

-- Equations of polynomials over ℤ, proved by computing: `ring n ρ l r tt` proves that the two expressions l and r, over the n numbers of ρ, are equal.
-- A polynomial in n variables is a list of polynomials in the variables after the first, by rising powers of the first. l and r are equal if each number in l - r is 0.
-- Assumes nothing.
use mathlib.Core.Path.{◌≡◌, refl, sym, ap, ◌∙◌}
use mathlib.Core.Bool.{Bool, true, false, ◌&&◌}
use mathlib.Core.List.{List, [], ◌∷◌, map}
use Prim.Native.Nat.{ℕ, zero, suc}
use lib.Dec.{T}
use lib.IntN.{ℤ, pos, negsuc, neg_ℤ, ◌+ℤ◌, ◌-ℤ◌, ◌*ℤ◌, +ℤ_idl, +ℤ_idr, zero-*ℤ, *ℤ-zero, *ℤ-one, one}
use Rattle.laws.proofs.Integers.{add_swap, distrib, distrib_r, mul_assoc, mul_left_comm, minus_one, eq_of_sub}

-- ---- expressions, and what they say
pub data Expr : Type 0 where
  var : ℕ → Expr
  add sub mul : Expr → Expr → Expr
  neg : Expr → Expr
  con : ℤ → Expr

abbrev pub Env : ℕ → Type 0
Env zero = Unit {0}
Env (suc n) = ℤ × Env n

abbrev pub look : (n : ℕ) → Env n → ℕ → ℤ
look zero ρ i = pos 0
look (suc n) ρ zero = ρ.0
look (suc n) ρ (suc i) = look n ρ.1 i

abbrev pub says : (n : ℕ) → Env n → Expr → ℤ
says n ρ (var i) = look n ρ i
says n ρ (add a b) = says n ρ a +ℤ says n ρ b
says n ρ (sub a b) = says n ρ a -ℤ says n ρ b
says n ρ (mul a b) = says n ρ a *ℤ says n ρ b
says n ρ (neg a) = neg_ℤ (says n ρ a)
says n ρ (con c) = c

-- ---- polynomials
module _ {A : Type 0} where
  abbrev add_l : (A → A → A) → List A → List A → List A
  add_l f [] ys = ys
  add_l f (x ∷ xs) [] = x ∷ xs
  add_l f (x ∷ xs) (y ∷ ys) = f x y ∷ add_l f xs ys

  abbrev mul_l : (A → A → A) → (A → A → A) → A → List A → List A → List A
  mul_l f g z [] ys = []
  mul_l f g z (x ∷ xs) ys = add_l f (map (g x) ys) (z ∷ mul_l f g z xs ys)

  abbrev all_l : (A → Bool) → List A → Bool
  all_l t [] = true
  all_l t (x ∷ xs) = t x && all_l t xs

  abbrev horner : (A → ℤ) → ℤ → List A → ℤ
  horner e v [] = pos 0
  horner e v (x ∷ xs) = e x +ℤ v *ℤ horner e v xs

abbrev pub Poly : ℕ → Type 0
Poly zero = ℤ
Poly (suc n) = List (Poly n)

abbrev add_p : (n : ℕ) → Poly n → Poly n → Poly n
add_p zero a b = a +ℤ b
add_p (suc n) a b = add_l (add_p n) a b

abbrev con_p : (n : ℕ) → ℤ → Poly n
con_p zero c = c
con_p (suc n) c = con_p n c ∷ []

abbrev mul_p : (n : ℕ) → Poly n → Poly n → Poly n
mul_p zero a b = a *ℤ b
mul_p (suc n) a b = mul_l (add_p n) (mul_p n) (con_p n (pos 0)) a b

abbrev var_p : (n : ℕ) → ℕ → Poly n
var_p zero i = pos 0
var_p (suc n) zero = con_p n (pos 0) ∷ con_p n (pos 1) ∷ []
var_p (suc n) (suc i) = var_p n i ∷ []

abbrev is_nil : ℤ → Bool
is_nil (pos zero) = true
is_nil (pos (suc n)) = false
is_nil (negsuc n) = false

abbrev pub nil_p : (n : ℕ) → Poly n → Bool
nil_p zero c = is_nil c
nil_p (suc n) p = all_l (nil_p n) p

abbrev pub poly : (n : ℕ) → Expr → Poly n
poly n (var i) = var_p n i
poly n (add a b) = add_p n (poly n a) (poly n b)
poly n (sub a b) = add_p n (poly n a) (mul_p n (con_p n (negsuc 0)) (poly n b))
poly n (mul a b) = mul_p n (poly n a) (poly n b)
poly n (neg a) = mul_p n (con_p n (negsuc 0)) (poly n a)
poly n (con c) = con_p n c

abbrev eval : (n : ℕ) → Env n → Poly n → ℤ
eval zero ρ c = c
eval (suc n) ρ p = horner (eval n ρ.1) ρ.0 p

-- ---- a polynomial's value follows its operations
two : {a b c d : ℤ} → a ≡ b → c ≡ d → a +ℤ c ≡ b +ℤ d
two p q = cc

module _ {A : Type 0} (e : A → ℤ) (v : ℤ) where
  horner_one : (c : A) → horner e v (c ∷ []) ≡ e c
  horner_one c = ap (λ (t : ℤ). e c +ℤ t) (*ℤ-zero v) ∙ +ℤ_idr (e c)

  horner_add : (f : A → A → A) → ((a b : A) → e (f a b) ≡ e a +ℤ e b) → (xs ys : List A) → horner e v (add_l f xs ys) ≡ horner e v xs +ℤ horner e v ys
  horner_add f ef [] ys = sym (+ℤ_idl (horner e v ys))
  horner_add f ef (x ∷ xs) [] = sym (+ℤ_idr (horner e v (x ∷ xs)))
  horner_add f ef (x ∷ xs) (y ∷ ys) =
      two (ef x y) (ap (λ (t : ℤ). v *ℤ t) (horner_add f ef xs ys) ∙ distrib v (horner e v xs) (horner e v ys))
      ∙ add_swap (e x) (e y) (v *ℤ horner e v xs) (v *ℤ horner e v ys)

  horner_scale : (g : A → A → A) → ((a b : A) → e (g a b) ≡ e a *ℤ e b) → (x : A) (ys : List A) → horner e v (map (g x) ys) ≡ e x *ℤ horner e v ys
  horner_scale g eg x [] = sym (*ℤ-zero (e x))
  horner_scale g eg x (y ∷ ys) =
      two (eg x y) (ap (λ (t : ℤ). v *ℤ t) (horner_scale g eg x ys) ∙ mul_left_comm v (e x) (horner e v ys))
      ∙ sym (distrib (e x) (e y) (v *ℤ horner e v ys))

  horner_mul : (f g : A → A → A) (z : A) → ((a b : A) → e (f a b) ≡ e a +ℤ e b) → ((a b : A) → e (g a b) ≡ e a *ℤ e b) → e z ≡ pos 0
      → (xs ys : List A) → horner e v (mul_l f g z xs ys) ≡ horner e v xs *ℤ horner e v ys
  horner_mul f g z ef eg ez [] ys = sym (zero-*ℤ (horner e v ys))
  horner_mul f g z ef eg ez (x ∷ xs) ys =
      horner_add f ef (map (g x) ys) (z ∷ mul_l f g z xs ys)
      ∙ two (horner_scale g eg x ys) (two ez (ap (λ (t : ℤ). v *ℤ t) (horner_mul f g z ef eg ez xs ys)) ∙ +ℤ_idl (v *ℤ (horner e v xs *ℤ horner e v ys)) ∙ sym (mul_assoc v (horner e v xs) (horner e v ys)))
      ∙ sym (distrib_r (e x) (v *ℤ horner e v xs) (horner e v ys))

  horner_nil : (t : A → Bool) → ((a : A) → T (t a) → e a ≡ pos 0) → (xs : List A) → T (all_l t xs) → horner e v xs ≡ pos 0
  horner_nil t et [] h = refl
  horner_nil t et (x ∷ xs) h =
      two (et x (left (t x) (all_l t xs) h)) (ap (λ (s : ℤ). v *ℤ s) (horner_nil t et xs (right (t x) (all_l t xs) h)) ∙ *ℤ-zero v)
    where
      left : (a b : Bool) → T (a && b) → T a
      left true b h = tt
      left false b h = h

      right : (a b : Bool) → T (a && b) → T b
      right true b h = h
      right false b h = absurd h

eval_add : (n : ℕ) (ρ : Env n) (p q : Poly n) → eval n ρ (add_p n p q) ≡ eval n ρ p +ℤ eval n ρ q
eval_add zero ρ p q = refl
eval_add (suc n) ρ p q = horner_add (eval n ρ.1) ρ.0 (add_p n) (eval_add n ρ.1) p q

eval_con : (n : ℕ) (ρ : Env n) (c : ℤ) → eval n ρ (con_p n c) ≡ c
eval_con zero ρ c = refl
eval_con (suc n) ρ c = horner_one (eval n ρ.1) ρ.0 (con_p n c) ∙ eval_con n ρ.1 c

eval_mul : (n : ℕ) (ρ : Env n) (p q : Poly n) → eval n ρ (mul_p n p q) ≡ eval n ρ p *ℤ eval n ρ q
eval_mul zero ρ p q = refl
eval_mul (suc n) ρ p q =
    horner_mul (eval n ρ.1) ρ.0 (add_p n) (mul_p n) (con_p n (pos 0)) (eval_add n ρ.1) (eval_mul n ρ.1) (eval_con n ρ.1 (pos 0)) p q

times_one : (a : ℤ) → a *ℤ pos 1 ≡ a
unfolding one
times_one a = *ℤ-one a

eval_var : (n : ℕ) (ρ : Env n) (i : ℕ) → eval n ρ (var_p n i) ≡ look n ρ i
eval_var zero ρ i = refl
eval_var (suc n) ρ zero =
    two (eval_con n ρ.1 (pos 0)) (ap (λ (t : ℤ). ρ.0 *ℤ t) (horner_one (eval n ρ.1) ρ.0 (con_p n (pos 1)) ∙ eval_con n ρ.1 (pos 1)))
    ∙ +ℤ_idl (ρ.0 *ℤ pos 1) ∙ times_one ρ.0
eval_var (suc n) ρ (suc i) = horner_one (eval n ρ.1) ρ.0 (var_p n i) ∙ eval_var n ρ.1 i

eval_neg : (n : ℕ) (ρ : Env n) (p : Poly n) → eval n ρ (mul_p n (con_p n (negsuc 0)) p) ≡ neg_ℤ (eval n ρ p)
eval_neg n ρ p = eval_mul n ρ (con_p n (negsuc 0)) p ∙ ap (λ (t : ℤ). t *ℤ eval n ρ p) (eval_con n ρ (negsuc 0)) ∙ minus_one (eval n ρ p)

eval_nil : (n : ℕ) (ρ : Env n) (p : Poly n) → T (nil_p n p) → eval n ρ p ≡ pos 0
eval_nil zero ρ (pos zero) h = refl
eval_nil zero ρ (pos (suc k)) h = absurd h
eval_nil zero ρ (negsuc k) h = absurd h
eval_nil (suc n) ρ p h = horner_nil (eval n ρ.1) ρ.0 (nil_p n) (eval_nil n ρ.1) p h

means : (n : ℕ) (ρ : Env n) (a : Expr) → eval n ρ (poly n a) ≡ says n ρ a
means n ρ (var i) = eval_var n ρ i
means n ρ (add a b) = eval_add n ρ (poly n a) (poly n b) ∙ two (means n ρ a) (means n ρ b)
means n ρ (sub a b) =
    eval_add n ρ (poly n a) (mul_p n (con_p n (negsuc 0)) (poly n b)) ∙ two (means n ρ a) (eval_neg n ρ (poly n b) ∙ ap neg_ℤ (means n ρ b))
means n ρ (mul a b) = eval_mul n ρ (poly n a) (poly n b) ∙ times (means n ρ a) (means n ρ b)
  where
    times : {a b c d : ℤ} → a ≡ b → c ≡ d → a *ℤ c ≡ b *ℤ d
    times p q = cc
means n ρ (neg a) = eval_neg n ρ (poly n a) ∙ ap neg_ℤ (means n ρ a)
means n ρ (con c) = eval_con n ρ c

-- ---- the law
pub ring : (n : ℕ) (ρ : Env n) (l r : Expr) → T (nil_p n (poly n (sub l r))) → says n ρ l ≡ says n ρ r
ring n ρ l r h = eq_of_sub (says n ρ l) (says n ρ r) (sym (means n ρ (sub l r)) ∙ eval_nil n ρ (poly n (sub l r)) h)

-- a square of a sum
example : (a b : ℤ) → (a +ℤ b) *ℤ (a -ℤ b) ≡ a *ℤ a -ℤ b *ℤ b
example a b = ring 2 (a, (b, tt)) (mul (add (var 0) (var 1)) (sub (var 0) (var 1))) (sub (mul (var 0) (var 0)) (mul (var 1) (var 1))) tt

-- The sign of `max(0.0)` cannot be seen: whichever zero each one answers, `shade_vertex` gives `shade_of`, signs of zeros included, for all inputs.
-- A zero for `ndotl` shows no highlight, and changes a light's term at most from one zero to the other; the sum so far starts at +0.0, is never -0.0, and takes both alike. A zero for `ndoth` is squared. Assumes nothing.
use mathlib.Core.Path.{◌≡◌, refl, sym, ap, ◌∙◌}
use mathlib.Core.Bool.{Bool, true, false, cond}
use mathlib.Core.List.{List, [], ◌∷◌}
use Prim.Native.Nat.{ℕ, ◌*◌}
use native.Mathlib.Nat.{le_of_eq}
use borrow.Author.Tests.{eqb-true, le-ltb}
use lib.Dec.{T, eqb}
use lib.Ieee.{Float, nan, inf, fin, binary32, up, down, of_bits, mul, lt, eq, fits}
use lib.Ieee.Fits.{add-fits}
use Rattle.ieee.specs.Units.{zero32}
use Rattle.ieee.specs.Range.{max_of}
use Rattle.ieee.proofs.Compare.{differ}
use Rattle.vector.specs.Three.{◌⊕◌, ◌·◌, at, power16}
use Rattle.laws.proofs.Bools.{and_left}
use Rattle.light.specs.Light.{none, view_of, shine_of, term_of, with_terms, added_toward, added_of, lit_of, with_alpha, shade_of}
use Rattle.light.specs.declared.Light.{Light}
use Rattle.light.specs.Either.{Max0, ours, minus, specular_of, Lit, done, off, on, Shaded, from}
use Rattle.light.proofs.Zeros.{not_minus, add_not}
use Rattle.light.proofs.Alike.{Alike, same, zeros, mul_alike, add_left, add_right, add_same}

-- ---- `max(0.0)`
max_zero : (x : Float) → eq x zero32 ≡ true → max_of x ≡ zero32
unfolding eq lt of_bits
max_zero nan h = differ (sym h)
max_zero (inf s) h = differ (sym h)
max_zero (fin true m e) h = refl
max_zero (fin false m e) h = rw (le-ltb (0 * down e) (m * up e * 1) (le_of_eq (eqb-true (m * up e * 1) (0 * down e) (and_left (eqb (m * up e * 1) (0 * down e)) true h))))

max_alike : {x r : Float} → Max0 x r → Alike r (max_of x)
unfolding of_bits
max_alike ours = same
max_alike {x} (minus h) = rw (max_zero x h) zeros

power_same : {x r : Float} → Max0 x r → power16 r ≡ power16 (max_of x)
unfolding power16 mul of_bits
power_same ours = refl
power_same {x} (minus h) = rw (max_zero x h)

specular_same : {x y r q : Float} → Max0 x r → Max0 y q → specular_of r q ≡ specular_of (max_of x) (max_of y)
unfolding lt of_bits
specular_same {x} ours k = ap (λ (z : Float). cond (lt zero32 (max_of x)) z zero32) (power_same k)
specular_same {x} (minus h) k = rw (max_zero x h)

-- ---- one light
module _ (albedo : List Float) (l : Light) (c : ℕ) (shine : Float) where
  term_fits : (r : Float) → T (fits binary32 (term_of albedo l c r shine))
  term_fits r = add-fits binary32 (at albedo c · at l.ambient c ⊕ at albedo c · at l.diffuse c · r ⊕ at l.specular c · shine) (at l.emission c)

  term_alike : {r q : Float} → Alike r q → Alike (term_of albedo l c r shine) (term_of albedo l c q shine)
  term_alike h = add_left (at l.emission c) (add_left (at l.specular c · shine) (add_right (at albedo c · at l.ambient c) (mul_alike (at albedo c · at l.diffuse c) h)))

-- a sum so far: values of binary32 that are not -0.0
record Sound (x : Float) : Type 0 where
  is_value : T (fits binary32 x)
  is_not : T (not_minus x)

record Sums (rgb : List Float) : Type 0 where
  r : Sound (at rgb 0)
  g : Sound (at rgb 1)
  b : Sound (at rgb 2)

sound_add : (x y : Float) → Sound x → T (fits binary32 y) → Sound (x ⊕ y)
sound_add x y s t = record { is_value = add-fits binary32 x y; is_not = add_not x y s.is_value t s.is_not }

module _ (albedo rgb : List Float) (l : Light) (s : Sums rgb) where
  sums-add : (r shine : Float) → Sums (with_terms rgb albedo l r shine)
  sums-add r shine = record {
    r = sound_add (at rgb 0) (term_of albedo l 0 r shine) s.r (term_fits albedo l 0 shine r);
    g = sound_add (at rgb 1) (term_of albedo l 1 r shine) s.g (term_fits albedo l 1 shine r);
    b = sound_add (at rgb 2) (term_of albedo l 2 r shine) s.b (term_fits albedo l 2 shine r);
  }

  terms_same : {r q : Float} (shine : Float) → Alike r q → with_terms rgb albedo l r shine ≡ with_terms rgb albedo l q shine
  terms_same shine h =
      rw (add_same (at rgb 0) s.r.is_not (term_alike albedo l 0 shine h), add_same (at rgb 1) s.g.is_not (term_alike albedo l 1 shine h), add_same (at rgb 2) s.b.is_not (term_alike albedo l 2 shine h))

  light_same : {x y r q : Float} → Max0 x r → Max0 y q → with_terms rgb albedo l r (specular_of r q) ≡ with_terms rgb albedo l (max_of x) (specular_of (max_of x) (max_of y))
  light_same {x} {y} {r} {q} h k = ap (with_terms rgb albedo l r) (specular_same h k) ∙ terms_same (specular_of (max_of x) (max_of y)) (max_alike h)

-- ---- all lights
module _ (albedo p n v : List Float) where
  lit_one : {ls : List Light} {rgb out : List Float} → Lit albedo p n v ls rgb out → Sums rgb → out ≡ lit_of albedo p n v ls rgb
  unfolding lit_of added_toward shine_of
  lit_one done s = refl
  lit_one (off e t) s = lit_one t s ∙ rw e
  lit_one (on {l} {ls} {rgb} {out} {ndotl} {ndoth} e h k t) s =
      lit_one t (sums-add albedo rgb l s ndotl (specular_of ndotl ndoth)) ∙ rw e (ap (lit_of albedo p n v ls) (light_same albedo rgb l s h k))

  -- our own answers are among those
  lit_ours : (ls : List Light) (rgb : List Float) → Lit albedo p n v ls rgb (lit_of albedo p n v ls rgb)
  unfolding lit_of added_toward shine_of
  lit_ours [] rgb = done
  lit_ours (l ∷ ls) rgb = go l.enabled refl (lit_ours ls)
    where
      go : (b : Bool) → l.enabled ≡ b → ((sum : List Float) → Lit albedo p n v ls sum (lit_of albedo p n v ls sum)) → Lit albedo p n v (l ∷ ls) rgb (lit_of albedo p n v ls (cond b (added_of albedo p n v l rgb) rgb))
      go true e rest = on e ours ours (rest (added_of albedo p n v l rgb))
      go false e rest = off e (rest rgb)

start : Sums none
unfolding fits of_bits
start = record { r = record { is_value = tt; is_not = tt }; g = record { is_value = tt; is_not = tt }; b = record { is_value = tt; is_not = tt } }

-- ---- the outcome: one, and it is `shade_of`
module _ (albedo p n : List Float) (lights : List Light) where
  pub either_zero : (out : List Float) → Shaded albedo p n lights out → out ≡ shade_of albedo p n lights
  unfolding shade_of
  either_zero out (from t) = ap (λ (rgb : List Float). with_alpha rgb (at albedo 3)) (lit_one albedo p n (view_of p) t start)

  pub either_ours : Shaded albedo p n lights (shade_of albedo p n lights)
  unfolding shade_of
  either_ours = from (lit_ours albedo p n (view_of p) lights none)

-- The dither of a digit times 17, in fewer steps: the level is twice the digit, and one more above a limit. Assumes nothing.
use mathlib.Core.Path.{◌≡◌, refl}
use mathlib.Core.Bool.{Bool, true, false, cond}
use mathlib.Core.List.{List, [], ◌∷◌}
use Prim.Native.Nat.{ℕ, zero, suc, ◌+◌, ◌*◌, ◌/◌, ◌%◌, ◌<◌, ◌≤◌}
use native.Mathlib.Decide.{dec_lt}
use native.Mathlib.Omega.{arith}
use borrow.Author.Tests.{lt-ltb, le-ltb, ltb-true}
use lib.Dec.{ltb}
use lib.ListN.{get_or}
use Rattle.texel.specs.Texel.{nibbles_of}
use Rattle.screen.specs.Dither.{bayer, threshold_at, level_of, dither_of}

module _ (n t : ℕ) (d : n < 16) (l : t < 16) where
  -- above the limit, and not
  level_high : t * 30 + 15 < n * 32 → level_of (n * 17) t ≡ n * 2 + 1
  unfolding level_of
  level_high h = go (dec_lt n 15)
    where
      go : Dec (n < 15) → n * 17 * 31 / 255 + cond (ltb ((t * 2 + 1) * 255) (n * 17 * 31 % 255 * 32)) 1 0 ≡ n * 2 + 1
      go (yes p) =
          let q : n * 17 * 31 / 255 ≡ n * 2 = omega arith in
          let r : n * 17 * 31 % 255 ≡ n * 17 = omega arith in
          rw (q, r, lt-ltb ((t * 2 + 1) * 255) (n * 17 * 32) (omega arith))
      go (no p) =
          let q : n * 17 * 31 / 255 ≡ n * 2 + 1 = omega arith in
          let r : n * 17 * 31 % 255 ≡ 0 = omega arith in
          rw (q, r, le-ltb ((t * 2 + 1) * 255) (0 * 32) (omega arith)) (omega arith)

  level_low : n * 32 ≤ t * 30 + 15 → level_of (n * 17) t ≡ n * 2
  unfolding level_of
  level_low h =
      let q : n * 17 * 31 / 255 ≡ n * 2 = omega arith in
      let r : n * 17 * 31 % 255 ≡ n * 17 = omega arith in
      rw (q, r, le-ltb ((t * 2 + 1) * 255) (n * 17 * 32) (omega arith)) (omega arith)

  pub tone_high : t * 30 + 15 < n * 32 → ((n * 2 + 1) * 255 + 15) / 31 ≡ dither_of (n * 17) t
  unfolding dither_of
  tone_high h = rw (level_high h)

  pub tone_low : n * 32 ≤ t * 30 + 15 → (n * 2 * 255 + 15) / 31 ≡ dither_of (n * 17) t
  unfolding dither_of
  tone_low h = rw (level_low h)

-- every threshold is below 16
below : List ℕ → Bool
below [] = true
below (x ∷ xs) = cond (ltb x 16) (below xs) false

found_below : (xs : List ℕ) (k : ℕ) → below xs ≡ true → get_or xs k 0 < 16
unfolding below
found_below [] k e = omega arith
found_below (x ∷ xs) k e = go (ltb x 16) refl e k (λ f j. found_below xs j f)
  where
    go : (b : Bool) → ltb x 16 ≡ b → cond b (below xs) false ≡ true → (k : ℕ) → (below xs ≡ true → (j : ℕ) → get_or xs j 0 < 16) → get_or (x ∷ xs) k 0 < 16
    go true f e zero rest = ltb-true x 16 f
    go true f e (suc k) rest = rest e k
    go false f e k rest = let z : ◌≡◌ {A = ℕ} 0 1 = cc in absurd (omega arith)

pub threshold_small : (x y : ℕ) → threshold_at x y < 16
unfolding below
threshold_small x y = found_below bayer (y % 4 * 4 + x % 4) refl

-- ---- a texel's alpha, by its last digit
pub alpha_none : (h : ℕ) → h % 16 ≡ 0 → (nibbles_of h).a ≡ 0
unfolding nibbles_of
alpha_none h e = rw e

pub alpha_some : (h : ℕ) → (h % 16 ≡ 0 → ⊥) → (nibbles_of h).a ≡ 0 → ⊥
unfolding nibbles_of
alpha_some h f e = f (omega arith)

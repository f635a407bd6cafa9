-- What a reader may ask of the definitions: where a texel goes, what stays, and what is still taken. The order of the refusals is in `Fits.antt`. Assumes nothing.
use mathlib.Core.Path.{◌≡◌, refl, sym, ap, ◌∙◌}
use mathlib.Core.Bool.{Bool, true, false, cond}
use mathlib.Core.List.{List}
use Prim.Native.Nat.{ℕ, suc, ◌+◌, ◌-◌, ◌/◌, ◌%◌, ◌<◌, ◌≤◌}
use native.Mathlib.Decide.{dec_lt}
use native.Mathlib.Omega.{arith}
use borrow.Author.Tests.{eq-eqb, ne_eqb, lt-leb, le-leb, leb-true, lt-ltb, le-ltb}
use lib.Dec.{eqb}
use lib.IntN.{ℤ, pos, negsuc, nat_abs, ◌+ℤ◌, pos-ne-negsuc}
use lib.ListN.{length, get_or}
use lib.Signed.{le_z}
use Rattle.laws.proofs.Cells.{get_or-map_at}
use Rattle.laws.proofs.Bools.{and_left}
use Rattle.screen.specs.Plane.{width, paint, shown}
use Rattle.texel.specs.Texel.{texel_at}
use Rattle.verdict.specs.Verdict.{done, refused}
use Rattle.verdict.specs.declared.Reason.TheVariants.{OutOfRange}
use Rattle.flat.specs.Words.{signed_at, in_reach}
use Rattle.sprite.specs.declared.words.Sprite.{Sprite}
use Rattle.sprite.specs.Sprite.{offset, under, covers, place_of, over, sprite_byte, sprite_plane}
use Rattle.sprite.specs.Words.{fit_verdict}
use Rattle.sprite.proofs.Under.{offset_pos, under_in, offset_neg, cut_in}
use Rattle.sprite.proofs.Rows.{under-offset}
use Rattle.sprite.proofs.Fits.{sideways, targets, target_in}

-- ---- where a texel goes: column c of the sprite is at the column `at` + c of the screen
-- every column that is under the sprite shows one of its columns
pub shows_its_own : (at : ℤ) (n x : ℕ) → under at n x ≡ true → (at +ℤ pos (offset at x) ≡ pos x) × (offset at x < n)
unfolding under
shows_its_own (pos a) n x h =
    let l : a ≤ x = leb-true a x (and_left (le_z (pos a) (pos x)) _ h) in
    (ap pos (rw (offset_pos a x l) (omega arith)), under-offset (pos a) n x h)
shows_its_own (negsuc a) n x h = (rw (offset_neg a x, le-ltb (x + suc a) (suc a) (omega arith)) (ap pos (omega arith)), under-offset (negsuc a) n x h)

-- and each of its columns that is on the screen is shown
pub is-shown : (at : ℤ) (n x c : ℕ) → at +ℤ pos c ≡ pos x → c < n → (under at n x ≡ true) × (offset at x ≡ c)
is-shown (pos a) n x c e l =
    let s : a + c ≡ x = cc in
    (under_in a n x (omega arith) (omega arith), offset_pos a x (omega arith) ∙ omega arith)
is-shown (negsuc a) n x c e l = go (decide c) e
  where
    decide : (c : ℕ) → Dec (c < suc a)
    decide c = dec_lt c (suc a)

    go : Dec (c < suc a) → negsuc a +ℤ pos c ≡ pos x → (under (negsuc a) n x ≡ true) × (offset (negsuc a) x ≡ c)
    go (yes p) e = absurd (pos-ne-negsuc x (suc a - suc c) (sym e ∙ rw (lt-ltb c (suc a) p)))
    go (no p) e =
        let s : c - suc a ≡ x = ap nat_abs (rw (le-ltb c (suc a) (omega arith)) at e) in
        (cut_in a n x (omega arith), offset_neg a x ∙ omega arith)

-- ---- what stays, and what is shown
module _ (s : Sprite) (T P : List ℕ) (j : ℕ) (l : j < length P) where
  abbrev x : ℕ
  x = j / 4 % width

  abbrev y : ℕ
  y = j / 4 / width

  byte_is : get_or (sprite_plane s T P) j 0 ≡ sprite_byte s T j (get_or P j 0)
  unfolding sprite_plane
  byte_is = get_or-map_at (sprite_byte s T) P j 0 l

  -- the rest of the plane
  pub rest_stays : covers s x y ≡ false → get_or (sprite_plane s T P) j 0 ≡ get_or P j 0
  unfolding sprite_byte
  rest_stays h = byte_is ∙ rw h

  -- a pixel whose texel has alpha 0
  pub clear_stays : (texel_at T (place_of s x y)).a ≡ 0 → get_or (sprite_plane s T P) j 0 ≡ get_or P j 0
  unfolding sprite_byte over
  clear_stays h = byte_is ∙ go (covers s x y)
    where
      go : (b : Bool) → cond b (cond (eqb (texel_at T (place_of s x y)).a 0) (get_or P j 0) (paint (texel_at T (place_of s x y)) j (get_or P j 0))) (get_or P j 0) ≡ get_or P j 0
      go true = rw (eq-eqb (texel_at T (place_of s x y)).a 0 h)
      go false = refl

  -- any other alpha: the texel, whatever was there
  pub texel_shown : covers s x y ≡ true → ((texel_at T (place_of s x y)).a ≡ 0 → ⊥) → get_or (sprite_plane s T P) j 0 ≡ shown (texel_at T (place_of s x y)) j
  unfolding sprite_byte over paint
  texel_shown h a = byte_is ∙ rw (h, ne_eqb (texel_at T (place_of s x y)).a 0 a)

-- ---- the limits: a rectangle that ends at both edges of its texture, and the farthest target, are taken
module _ (p : List ℕ) (w h : ℕ) (a : get_or p 3 0 ≡ 0 → ⊥) (b : get_or p 4 0 ≡ 0 → ⊥) where
  pub at_limit : get_or p 1 0 + get_or p 3 0 ≡ w → get_or p 2 0 + get_or p 4 0 ≡ h → signed_at p 5 ≡ pos 8192 → signed_at p 6 ≡ negsuc 8191 → fit_verdict p w h ≡ done
  unfolding in_reach
  at_limit c d x y =
      targets p w h a b (le-leb (get_or p 1 0 + get_or p 3 0) w (omega arith)) (le-leb (get_or p 2 0 + get_or p 4 0) h (omega arith)) ∙ target_in p (rw x) (rw y)

  -- the sum does not wrap: 4294967295 and 2 are not 1
  pub not_wrapped : get_or p 1 0 ≡ 4294967295 → get_or p 3 0 ≡ 2 → w ≤ 1024 → fit_verdict p w h ≡ refused OutOfRange 3
  not_wrapped c d l = sideways p w h a b (lt-leb (get_or p 1 0 + get_or p 3 0) w (omega arith))

-- A loop down the lights: the sum of the whole list is the sum of what is left, from what has been added. Assumes nothing.
use mathlib.Core.Path.{◌≡◌, ap}
use mathlib.Core.Bool.{Bool, true, false, cond}
use mathlib.Core.List.{List}
use Prim.Native.Nat.{ℕ, suc, ◌+◌, ◌<◌, ◌≤◌}
use native.Mathlib.Numerals.{add-one}
use lib.Ieee.{Float}
use lib.ListN.{length, get_or, drop, drop_of_length-le}
use lib.Seq.{drop-cons}
use Rattle.vector.specs.Three.{at}
use Rattle.light.specs.Light.{none, view_of, added_of, lit_of, with_alpha, shade_of}
use Rattle.light.specs.declared.Light.{Light}

picks_first : {A : Type 0} (b : Bool) (x y : A) → b ≡ true → cond b x y ≡ x
picks_first b x y e = rw e

picks_second : {A : Type 0} (b : Bool) (x y : A) → b ≡ false → cond b x y ≡ y
picks_second b x y e = rw e

module _ (albedo p n v : List Float) (ls : List Light) (rgb : List Float) (i : ℕ) where
  module _ (d : Light) (h : i < length ls) where
    -- a light that is on
    pub lit_on : (get_or ls i d).enabled ≡ true → lit_of albedo p n v (drop i ls) rgb ≡ lit_of albedo p n v (drop (i + 1) ls) (added_of albedo p n v (get_or ls i d) rgb)
    unfolding lit_of
    lit_on e = rw (drop-cons ls i d h, add-one) (ap (lit_of albedo p n v (drop (suc i) ls)) (picks_first _ _ _ e))

    -- a light that is off
    pub lit_off : (get_or ls i d).enabled ≡ false → lit_of albedo p n v (drop i ls) rgb ≡ lit_of albedo p n v (drop (i + 1) ls) rgb
    unfolding lit_of
    lit_off e = rw (drop-cons ls i d h, add-one) (ap (lit_of albedo p n v (drop (suc i) ls)) (picks_second _ _ _ e))

  pub lit_end : length ls ≤ i → lit_of albedo p n v (drop i ls) rgb ≡ rgb
  unfolding lit_of
  lit_end h = rw (drop_of_length-le ls h)

-- what the loop leaves, with the albedo's alpha, is the definition's
pub shaded : (albedo p n : List Float) (ls : List Light) (v rgb : List Float) → v ≡ view_of p → rgb ≡ lit_of albedo p n v ls none
    → with_alpha rgb (at albedo 3) ≡ shade_of albedo p n ls
unfolding shade_of
shaded albedo p n ls v rgb e f = rw (f, e)

-- "Well formed" in two walks: where the areas lie, and the numbers. A test that joins others may take them in any order. Assumes nothing.
use Prim.Native.Nat.{ℕ, ◌+◌}
use mathlib.Core.Path.{◌≡◌, refl, sym}
use mathlib.Core.Bool.{Bool, true, false, cond, ◌&&◌, and-true, and-false}
use mathlib.Core.List.{List, [], ◌∷◌}
use lib.Dec.{eqb, leb}
use Rattle.store.specs.Slots.{area_of, sides_ok, fresh, unused, slots_ok}
use Rattle.formed.specs.Tests.{laid_ok, differ}
use Rattle.store.specs.declared.Slot.{Slot}
use Rattle.store.specs.declared.Kind.{Kind}

pub split : (k : Kind) (size at : ℕ) (ss : List Slot) → slots_ok k size at ss ≡ (laid_ok k size at ss && differ ss)
split k size at [] = sym (and-true (leb at size))
split k size at (s ∷ ss) =
    go s.held (sides_ok k s.width s.height && eqb s.start at) (fresh s.number ss) _ _ (split k size (at + area_of k s.width s.height) ss)
  where
    go : (h a f x y : Bool) → x ≡ (y && differ ss)
        → cond h (cond (a && f) x false) (unused (s ∷ ss) && leb at size) ≡ (cond h (cond a y false) (unused (s ∷ ss) && leb at size) && cond h (f && differ ss) true)
    go false a f x y e = sym (and-true (unused (s ∷ ss) && leb at size))
    go true false f x y e = refl
    go true true true x y e = e
    go true true false x y e = sym (and-false y)

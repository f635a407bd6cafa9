-- The parts of a finite result are finite: a product's factor, a sum's terms, and so each coordinate that a row of a matrix is applied to. Assumes nothing.
use Prim.Native.Nat.{ℕ}
use mathlib.Core.Path.{◌≡◌, refl}
use mathlib.Core.Bool.{Bool, true, false, cond, beq}
use mathlib.Core.List.{List}
use lib.Dec.{eqb}
use lib.Ieee.{Float, Format, nan, inf, fin, binary32, add, mul, unlike}
use lib.Ieee.Scale.{finite}
use Rattle.vector.specs.Three.{at}
use Rattle.vector.specs.Matrices.{row_of}

-- infinity times zero, and infinity less infinity, are no numbers, and no others are made of what is not finite
neither : (b s : Bool) → finite (cond b nan (inf s)) ≡ true → false ≡ true
neither true s h = h
neither false s h = h

opposed : (b s : Bool) → finite (cond b (inf s) nan) ≡ true → false ≡ true
opposed true s h = h
opposed false s h = h

module _ (f : Format) where
  pub factor : (a b : Float) → finite (mul f a b) ≡ true → finite b ≡ true
  unfolding mul
  factor a (fin t n d) h = refl
  factor nan nan h = h
  factor nan (inf t) h = h
  factor (inf s) nan h = h
  factor (inf s) (inf t) h = h
  factor (fin s m e) nan h = h
  factor (fin s m e) (inf t) h = neither (eqb m 0) (unlike s t) h

  pub first-term : (a b : Float) → finite (add f a b) ≡ true → finite a ≡ true
  unfolding add
  first-term (fin s m e) b h = refl
  first-term nan b h = h
  first-term (inf s) nan h = h
  first-term (inf s) (inf t) h = opposed (beq s t) s h
  first-term (inf s) (fin t n d) h = h

  pub second-term : (a b : Float) → finite (add f a b) ≡ true → finite b ≡ true
  unfolding add
  second-term a (fin t n d) h = refl
  second-term nan nan h = h
  second-term nan (inf t) h = h
  second-term (inf s) nan h = h
  second-term (inf s) (inf t) h = opposed (beq s t) s h
  second-term (fin s m e) nan h = h
  second-term (fin s m e) (inf t) h = h

pub record Coordinates (v : List Float) : Type 0 where
  pub x : finite (at v 0) ≡ true
  pub y : finite (at v 1) ≡ true
  pub z : finite (at v 2) ≡ true
  pub w : finite (at v 3) ≡ true

pub row_finite : (m : List Float) (p : ℕ) (v : List Float) → finite (row_of m p v) ≡ true → Coordinates v
row_finite m p v h =
    let three = first-term binary32 _ _ h in
    let two = first-term binary32 _ _ three in
    record {
      x = factor binary32 _ _ (first-term binary32 _ _ two);
      y = factor binary32 _ _ (second-term binary32 _ _ two);
      z = factor binary32 _ _ (second-term binary32 _ _ three);
      w = factor binary32 _ _ (second-term binary32 _ _ h);
    }

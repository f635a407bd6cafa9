-- Vectors of three floats; `normalize` of the original. Definitions only.
use Rattle.std.specs.Prelude.{cond, ◌&&◌, List, [], ◌∷◌, ℕ, get_or, Float}
use Rattle.std.specs.Float.{nan, binary32}
use Rattle.std.specs.Float.Ieee.{of_bits, add, sub, mul, div, lt}
use Rattle.std.specs.Float.Ieee.Scale.{finite}
use Rattle.ieee.specs.Units.{zero32, one32}
use Rattle.ieee.specs.Root.{root}

-- rule 7.1: the source's +, -, *, / on f32, each result rounded once
infixl 75 ◌⊕◌ ◌⊖◌
infixl 76 ◌·◌ ◌⊘◌
abbrev pub ◌⊕◌ : Float → Float → Float
a ⊕ b = add binary32 a b

abbrev pub ◌⊖◌ : Float → Float → Float
a ⊖ b = sub binary32 a b

abbrev pub ◌·◌ : Float → Float → Float
a · b = mul binary32 a b

abbrev pub ◌⊘◌ : Float → Float → Float
a ⊘ b = div binary32 a b

abbrev pub at : List Float → ℕ → Float
at l i = get_or l i nan

-- rule 7.2
abbrev pub dot_of : List Float → List Float → Float
dot_of a b = at a 0 · at b 0 ⊕ at a 1 · at b 1 ⊕ at a 2 · at b 2

-- in each place by itself
abbrev pub plus_of : List Float → List Float → List Float
plus_of a b = at a 0 ⊕ at b 0 ∷ at a 1 ⊕ at b 1 ∷ at a 2 ⊕ at b 2 ∷ []

abbrev pub minus_of : List Float → List Float → List Float
minus_of a b = at a 0 ⊖ at b 0 ∷ at a 1 ⊖ at b 1 ∷ at a 2 ⊖ at b 2 ∷ []

-- 2 ^ -23, Rust's `f32::EPSILON`
abbrev pub epsilon : Float
epsilon = of_bits binary32 0x3400_0000

-- rule 7.3: divided by the length l, unless that is not finite or at most 2^-23
unfoldable pub scaled_of : List Float → Float → List Float
scaled_of v l = cond (finite l && lt epsilon l) (at v 0 ⊘ l ∷ at v 1 ⊘ l ∷ at v 2 ⊘ l ∷ []) (zero32 ∷ zero32 ∷ one32 ∷ [])

-- rule 7.3, `normalize`
unfoldable pub normal_of : List Float → List Float
unfolding scaled_of
normal_of v = scaled_of v (root (dot_of v v))

-- rule 7.4
abbrev pub square : Float → Float
square x = x · x

unfoldable pub power16 : Float → Float
power16 x = square (square (square (square x)))

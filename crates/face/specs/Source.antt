-- `inside` in the very shape of the original's lines, once for each rasteriser; proofs/Source.antt shows that both are `inside_of`. Definitions only.
use Rattle.std.specs.Prelude.{Bool, true, cond, ◌&&◌, List, [], ◌∷◌, Float}
use Rattle.std.specs.Float.Ieee.{lt, le}
use Rattle.ieee.specs.Units.{zero32}
use Rattle.face.specs.declared.Corners.{Corners}

-- a number for each corner, as the `[f32; 3]` that it is there
abbrev pub three_of : Corners → List Float
three_of c = c.c0 ∷ c.c1 ∷ c.c2 ∷ []

-- Rust's `a > b` and `a >= b`
abbrev pub gt : Float → Float → Bool
gt a b = lt b a

abbrev pub ge : Float → Float → Bool
ge a b = le b a

-- Rust's `l.iter().all(f)`
abbrev pub all : (Float → Bool) → List Float → Bool
all f [] = true
all f (x ∷ xs) = f x && all f xs

-- lines 610 to 612, of `rasterize_textured_triangle`: `weights.iter().all(|w| if area > 0.0 { *w >= 0.0 } else { *w <= 0.0 })`
abbrev pub inside_textured : Float → List Float → Bool
inside_textured area weights = all (λ (w : Float). cond (gt area zero32) (ge w zero32) (le w zero32)) weights

-- lines 814 to 818, of `rasterize_transformed_triangle`:
-- `if area > 0.0 { weights.iter().all(|weight| *weight >= 0.0) } else { weights.iter().all(|weight| *weight <= 0.0) }`
abbrev pub inside_transformed : Float → List Float → Bool
inside_transformed area weights =
    cond (gt area zero32) (all (λ (w : Float). ge w zero32) weights) (all (λ (w : Float). le w zero32) weights)

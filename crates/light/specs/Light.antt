-- Lights (rule 5.4): a switch and fifteen floats; `Light` and `shade_vertex` of the original. Definitions only.
use Rattle.std.specs.Prelude.{ℕ, false, cond, List, [], ◌∷◌, Float, get_or}
use Rattle.std.specs.Float.Ieee.{neg, lt}
use Rattle.ieee.specs.Units.{zero32}
use Rattle.ieee.specs.Range.{max_of}
use Rattle.vector.specs.Three.{◌⊕◌, ◌⊖◌, ◌·◌, at, dot_of, normal_of, power16}
use Rattle.light.specs.declared.Light.{Light}

abbrev pub none : List Float
none = zero32 ∷ zero32 ∷ zero32 ∷ []

-- rule 1.9: the dark light, `Light::DISABLED`
abbrev pub disabled : Light
disabled = record { enabled = false; ambient = none; diffuse = none; specular = none; emission = none; position = none }

-- the directions from a corner to the eye, which is at the origin, and to a light
abbrev pub view_of : List Float → List Float
view_of p = normal_of (neg (at p 0) ∷ neg (at p 1) ∷ neg (at p 2) ∷ [])

abbrev pub to_light_of : List Float → List Float → List Float
to_light_of l p = normal_of (at l 0 ⊖ at p 0 ∷ at l 1 ⊖ at p 1 ∷ at l 2 ⊖ at p 2 ∷ [])

-- `ndotl` and `ndoth`: the maximum with 0 turns NaN into 0
abbrev pub facing : List Float → List Float → Float
facing n d = max_of (dot_of n d)

abbrev pub half_of : List Float → List Float → List Float
half_of l v = normal_of (at l 0 ⊕ at v 0 ∷ at l 1 ⊕ at v 1 ∷ at l 2 ⊕ at v 2 ∷ [])

-- the source's `specular`: the sixteenth power if the surface faces the light, else 0
unfoldable pub shine_of : List Float → List Float → List Float → Float → Float
shine_of n l v ndotl = cond (lt zero32 ndotl) (power16 (facing n (half_of l v))) zero32

-- one light in one channel: the four terms are summed first, left to right
abbrev pub term_of : List Float → Light → ℕ → Float → Float → Float
term_of albedo l c ndotl shine = at albedo c · at l.ambient c ⊕ at albedo c · at l.diffuse c · ndotl ⊕ at l.specular c · shine ⊕ at l.emission c

-- .. and the sum is added to what the lights before it gave
abbrev pub with_terms : List Float → List Float → Light → Float → Float → List Float
with_terms rgb albedo l ndotl shine =
    at rgb 0 ⊕ term_of albedo l 0 ndotl shine ∷ at rgb 1 ⊕ term_of albedo l 1 ndotl shine ∷ at rgb 2 ⊕ term_of albedo l 2 ndotl shine ∷ []

-- a light is added, with the direction to it given
unfoldable pub added_toward : List Float → List Float → List Float → List Float → Light → List Float → List Float
added_toward toward albedo n v l rgb = with_terms rgb albedo l (facing n toward) (shine_of n toward v (facing n toward))

abbrev pub added_of : List Float → List Float → List Float → List Float → Light → List Float → List Float
added_of albedo p n v l rgb = added_toward (to_light_of l.position p) albedo n v l rgb

-- the lights in their order; a light that is off adds nothing
unfoldable pub lit_of : List Float → List Float → List Float → List Float → List Light → List Float → List Float
lit_of albedo p n v [] rgb = rgb
lit_of albedo p n v (l ∷ ls) rgb = lit_of albedo p n v ls (cond l.enabled (added_of albedo p n v l rgb) rgb)

-- rule 5.4, `shade_vertex`: the lights' sum from 0, and the albedo's alpha
abbrev pub with_alpha : List Float → Float → List Float
with_alpha rgb a = at rgb 0 ∷ at rgb 1 ∷ at rgb 2 ∷ a ∷ []

unfoldable pub shade_of : List Float → List Float → List Float → List Light → List Float
shade_of albedo p n lights = with_alpha (lit_of albedo p n (view_of p) lights none) (at albedo 3)

-- .. for three corners; corner k has the k-th of each list
abbrev pub row_of : List (List Float) → ℕ → List Float
row_of rows k = get_or rows k []

abbrev pub shade_at : List (List Float) → List (List Float) → List (List Float) → List Light → ℕ → List Float
shade_at albedos ps ns lights k = shade_of (row_of albedos k) (row_of ps k) (row_of ns k) lights

abbrev pub shade_each : List (List Float) → List (List Float) → List (List Float) → List Light → List (List Float)
shade_each albedos ps ns lights = shade_at albedos ps ns lights 0 ∷ shade_at albedos ps ns lights 1 ∷ shade_at albedos ps ns lights 2 ∷ []

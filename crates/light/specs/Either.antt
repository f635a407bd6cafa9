-- Shading in which each `max(0.0)` may answer either zero if both numbers are zeros, as Rust's documentation allows at each call: the original's `shade_vertex`. proofs/Either.antt shows that one outcome is left. Definitions only.
use Rattle.std.specs.Prelude.{◌≡◌, true, false, cond, List, [], ◌∷◌, Float}
use Rattle.std.specs.Float.Ieee.{lt, eq}
use Rattle.ieee.specs.Units.{zero32}
use Rattle.ieee.specs.Range.{max_of}
use Rattle.vector.specs.Three.{at, dot_of, power16}
use Rattle.vector.specs.Sums.{minus_zero}
use Rattle.light.specs.Light.{none, view_of, to_light_of, half_of, with_terms, with_alpha}
use Rattle.light.specs.declared.Light.{Light}

-- r may be what `x.max(0.0)` answers: `max_of x`, or -0.0 if x is a zero
pub data Max0 (x : Float) : Float → Type 0 where
  ours : Max0 x (max_of x)
  minus : eq x zero32 ≡ true → Max0 x minus_zero

-- line 963, the source's `specular`: `if ndotl > 0.0 { ndoth.powi(16) } else { 0.0 }`
abbrev pub specular_of : Float → Float → Float
specular_of ndotl ndoth = cond (lt zero32 ndotl) (power16 ndoth) zero32

-- lines 948 to 970, the lights in their order: from rgb they may come to `out`. Each light has answers of its own (954 to 957, 959 to 962)
pub data Lit (albedo p n v : List Float) : List Light → List Float → List Float → Type 0 where
  done : {rgb : List Float} → Lit albedo p n v [] rgb rgb
  off : {l : Light} {ls : List Light} {rgb out : List Float} → l.enabled ≡ false → Lit albedo p n v ls rgb out → Lit albedo p n v (l ∷ ls) rgb out
  on : {l : Light} {ls : List Light} {rgb out : List Float} {ndotl ndoth : Float} → l.enabled ≡ true
      → Max0 (dot_of n (to_light_of l.position p)) ndotl
      → Max0 (dot_of n (half_of (to_light_of l.position p) v)) ndoth
      → Lit albedo p n v ls (with_terms rgb albedo l ndotl (specular_of ndotl ndoth)) out
      → Lit albedo p n v (l ∷ ls) rgb out

-- `shade_vertex` may give `out`
pub data Shaded (albedo p n : List Float) (lights : List Light) : List Float → Type 0 where
  from : {rgb : List Float} → Lit albedo p n (view_of p) lights none rgb → Shaded albedo p n lights (with_alpha rgb (at albedo 3))

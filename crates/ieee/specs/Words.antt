-- Runs of words that are floats' bit patterns. Definitions only.
use Rattle.std.specs.Prelude.{ℕ, Bool, List, map, from_bits, Float}
use Rattle.std.specs.List.{list_all}
use Rattle.std.specs.Float.{binary32}
use Rattle.std.specs.Float.Ieee.Scale.{finite}

-- Rust's `p.iter().map(|w| f32::from_bits(*w))`
abbrev pub floats_of : List ℕ → List Float
floats_of p = map (from_bits binary32) p

-- whether no number of a list is infinite or a NaN
abbrev pub all_finite : List Float → Bool
all_finite l = list_all finite l

-- The parts of a light that rule 1.10 is about, one by one. Definitions only.
use Rattle.std.specs.Prelude.{List, Float}
use Rattle.light.specs.declared.Light.{Light}

-- the five arrays of a light
pub data Term : Type 0 where
  ambient : Term
  diffuse : Term
  specular : Term
  emission : Term
  position : Term

abbrev pub term : Term → Light → List Float
term ambient l = l.ambient
term diffuse l = l.diffuse
term specular l = l.specular
term emission l = l.emission
term position l = l.position

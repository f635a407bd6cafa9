-- What the commands 01, 02 and 15 set and every float draw reads. Definitions only.
use Rattle.std.specs.Prelude.{ℕ, ◌*◌, Bool, false, cond, ◌&&◌, List, ◌++◌, eqb, leb, drop, set, replicate}
use Rattle.std.specs.List.{list_all}
use Rattle.std.proofs.Math.Seq.{paste}
use Rattle.ieee.specs.Words.{floats_of, all_finite}
use Rattle.vector.specs.Matrices.{identity}
use Rattle.light.specs.Light.{disabled}
use Rattle.light.specs.declared.Light.{Light}
use Rattle.verdict.specs.Verdict.{Verdict, and_then}
use Rattle.payload.specs.Words.{word_at, three_at, at_most, finite_from}
use Rattle.settings.specs.declared.Settings.{Settings}

-- rule 1.9: three identity matrices, shading mode 0, lighting off, eight dark lights
abbrev pub fresh : Settings
fresh = record {
  matrices = identity.cells ++ (identity.cells ++ identity.cells);
  shading_mode = 0;
  lighting_enabled = false;
  lights = replicate 8 disabled;
}

-- ---- the three commands: what each refuses, and what it sets
-- rule 3.7
unfoldable pub mode_verdict : List ℕ → Verdict
mode_verdict p = and_then (at_most p 0 1) (at_most p 1 1)

unfoldable pub with_mode : Settings → List ℕ → Settings
with_mode s p =
    cond (eqb (word_at p 0) 0)
    (record { matrices = s.matrices; shading_mode = word_at p 1; lighting_enabled = s.lighting_enabled; lights = s.lights })
    (record { matrices = s.matrices; shading_mode = s.shading_mode; lighting_enabled = eqb (word_at p 1) 1; lights = s.lights })

-- rule 3.8
unfoldable pub matrix_verdict : List ℕ → Verdict
matrix_verdict p = and_then (at_most p 0 2) (finite_from p 1 16)

unfoldable pub with_matrix : Settings → List ℕ → Settings
with_matrix s p = record {
  matrices = paste s.matrices (word_at p 0 * 16) (floats_of (drop 1 p)) 16;
  shading_mode = s.shading_mode;
  lighting_enabled = s.lighting_enabled;
  lights = s.lights;
}

-- rule 3.9
unfoldable pub light_verdict : List ℕ → Verdict
light_verdict p = and_then (at_most p 0 7) (and_then (at_most p 1 1) (finite_from p 2 15))

abbrev pub light_of : List ℕ → Light
light_of p = record {
  enabled = eqb (word_at p 1) 1;
  ambient = three_at p 2;
  diffuse = three_at p 5;
  specular = three_at p 8;
  emission = three_at p 11;
  position = three_at p 14;
}

unfoldable pub with_light : Settings → List ℕ → Settings
with_light s p = record {
  matrices = s.matrices;
  shading_mode = s.shading_mode;
  lighting_enabled = s.lighting_enabled;
  lights = set s.lights (word_at p 0) (light_of p);
}

-- ---- rule 1.10
unfoldable pub light_ok : Light → Bool
light_ok l = all_finite l.ambient && (all_finite l.diffuse && (all_finite l.specular && (all_finite l.emission && all_finite l.position)))

abbrev pub lights_ok : List Light → Bool
lights_ok ls = list_all light_ok ls

unfoldable pub settings_ok : Settings → Bool
settings_ok s = all_finite s.matrices && (leb s.shading_mode 1 && lights_ok s.lights)

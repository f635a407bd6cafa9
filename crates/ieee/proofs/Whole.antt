-- Integers to floats: up to 2 ^ 24 the float is the number exactly, n * 2 ^ 149 units of 2 ^ -149. So bytes, columns, rows and texture sides are not rounded.
-- Assumes nothing.
use Rattle.std.proofs.Common.{◌≡◌, ℕ, ◌*◌, ◌^◌, ◌<◌, ◌≤◌, min, true, false, pos, sym, refl, ap, ◌∙◌, mul-one, mul_right_comm, mul-div_cancel, arith, pow_pos}
use lib.Ieee.{Float, nan, inf, fin, binary32, up, down, of_int}
use lib.Ieee.Back.{round_whole}
use lib.Ieee.Exact.{HasValue}
use lib.Ieee.Scale.{finite}
use Rattle.ieee.specs.Units.{wholes}
use Rattle.ieee.specs.Casts.{cut_of}
use Rattle.ieee.proofs.Shape.{wholes_value}
use Rattle.ieee.proofs.Bytes.{cut_value}

-- the value n, in units
in_units : (x : Float) (n : ℕ) → HasValue x false n 1 → HasValue x false (n * 2 ^ 149) (2 ^ 149)
in_units nan n h = h
in_units (inf s) n h = h
in_units (fin s m e) n h = (h.0, ap (λ (y : ℕ). y * 2 ^ 149) (sym (mul-one (m * up e)) ∙ h.1) ∙ mul_right_comm n (down e) (2 ^ 149))

value_finite : (x : Float) (n : ℕ) → HasValue x false n 1 → finite x ≡ true
value_finite nan n h = absurd h
value_finite (inf s) n h = absurd h
value_finite (fin s m e) n h = refl

module _ (n : ℕ) (h : n ≤ 2 ^ 24) where
  held : HasValue (of_int binary32 (pos n)) false n 1
  unfolding of_int
  held = round_whole binary32 false n h

  pub whole_finite : finite (of_int binary32 (pos n)) ≡ true
  whole_finite = value_finite (of_int binary32 (pos n)) n held

  pub whole_exact : wholes (of_int binary32 (pos n)) ≡ n * 2 ^ 149
  whole_exact = wholes_value (of_int binary32 (pos n)) false (n * 2 ^ 149) (in_units (of_int binary32 (pos n)) n held)

  -- the cast back gives the number again
  pub whole_back : (last : ℕ) → cut_of (of_int binary32 (pos n)) last ≡ min n last
  whole_back last =
      cut_value (of_int binary32 (pos n)) (n * 2 ^ 149) last (in_units (of_int binary32 (pos n)) n held)
      ∙ ap (λ (u : ℕ). min u last) (mul-div_cancel n (pow_pos 149))

-- a byte; a column or a row; a texture's side
pub byte_exact : (b : ℕ) → b < 256 → wholes (of_int binary32 (pos b)) ≡ b * 2 ^ 149
byte_exact b h = whole_exact b (omega arith)

pub pixel_exact : (x : ℕ) → x < 320 → wholes (of_int binary32 (pos x)) ≡ x * 2 ^ 149
pixel_exact x h = whole_exact x (omega arith)

pub side_exact : (n : ℕ) → n ≤ 1024 → wholes (of_int binary32 (pos n)) ≡ n * 2 ^ 149
side_exact n h = whole_exact n (omega arith)

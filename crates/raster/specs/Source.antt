-- A texel's colour in the very shape of the original's lines, from `c` to `rgba` in `rasterize_textured_triangle`; proofs/Source.antt shows that it is `toned_of`. Definitions only.
use Rattle.std.specs.Prelude.{ℕ, cond, List, [], ◌∷◌, pos, ◌==◌, from_bits, slice_index, Float}
use Rattle.std.specs.Float.{binary32}
use Rattle.std.specs.Float.Ieee.{of_int}
use Rattle.ieee.specs.Range.{clamp_of}
use Rattle.ieee.specs.Casts as casts
use Rattle.vector.specs.Three.{◌⊕◌, ◌·◌, ◌⊘◌, at}
use Rattle.vector.specs.Sums.{library_sum}
use Rattle.clip.specs.declared.vertex.ClipVertex.{ClipVertex}
use Rattle.screen.specs.declared.plane.Rgba.{Rgba}
use Rattle.face.specs.Face.{corner, half}
use Rattle.raster.specs.declared.ink.Color.{Color}

-- a colour as the `[f32; 4]`, and as the `[u8; 4]`, that it is there
abbrev pub four_of : Color → List Float
four_of c = c.r ∷ c.g ∷ c.b ∷ c.a ∷ []

abbrev pub bytes_of : Rgba → List ℕ
bytes_of c = c.r ∷ c.g ∷ c.b ∷ c.a ∷ []

-- Rust's `std::array::from_fn(f)`, of four
abbrev pub from_fn : {A : Type 0} → (ℕ → A) → List A
from_fn f = f 0 ∷ f 1 ∷ f 2 ∷ f 3 ∷ []

-- 255.0
abbrev pub most : Float
most = from_bits binary32 0x437f_0000

-- lines 627 to 636, `c`: `if mode == 1 { flat_color } else { from_fn(|ch| (0..3).map(|i| b[i] * tri[i].color[ch]).sum::<f32>().clamp(0.0, 1.0)) }`
abbrev pub color_source : List ClipVertex → ℕ → List Float → List Float → List Float
color_source tri mode flat b =
    cond (mode == 1) flat (from_fn (λ (ch : ℕ). clamp_of (library_sum 3 (λ (i : ℕ). at b i · at (corner tri i).color ch))))

-- lines 644 to 648, `rgba`; bytes are the four from `data[ti]` on:
-- `from_fn(|ch| { let t = data[ti + ch] as f32 / 255.0; let v = if mode == 0 { t } else { t * c[ch] }; (v.clamp(0.0, 1.0) * 255.0 + 0.5) as u8 })`
abbrev pub rgba_source : List ClipVertex → ℕ → List Float → List Float → List ℕ → List ℕ
rgba_source tri mode flat b bytes =
    let c = color_source tri mode flat b in
    from_fn
    (λ (ch : ℕ).
    let t = of_int binary32 (pos (slice_index bytes ch)) ⊘ most in
    let v = cond (mode == 0) t (t · at c ch) in
    casts.byte_of (clamp_of v · most ⊕ half))

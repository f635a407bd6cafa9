-- What the words of a payload say, read as floats and as colours, and the order of checks: `f32::from_bits(p[o])` and `to_be_bytes` of the original. Definitions only.
use Rattle.std.specs.Prelude.{ℕ, zero, suc, ◌+◌, ◌/◌, ◌%◌, cond, List, [], ◌∷◌, get_or, leb, Float}
use Rattle.std.specs.Float.{binary32}
use Rattle.std.specs.Float.Ieee.{of_bits}
use Rattle.std.specs.Float.Ieee.Scale.{finite}
use Rattle.ieee.specs.Number.{unit_of}
pub use Rattle.verdict.specs.Verdict.{Verdict, refused, done, and_then, passed, when_done}
use Rattle.verdict.specs.declared.Reason.TheVariants.{OutOfRange, NotFinite}

-- `p[i]`, and `f32::from_bits(p[i])`
abbrev pub word_at : List ℕ → ℕ → ℕ
word_at p i = get_or p i 0

abbrev pub float_at : List ℕ → ℕ → Float
float_at p i = of_bits binary32 (word_at p i)

-- three of them, from i on
abbrev pub three_at : List ℕ → ℕ → List Float
three_at p i = float_at p i ∷ float_at p (i + 1) ∷ float_at p (i + 2) ∷ []

-- `p[i] <= most`
abbrev pub at_most : List ℕ → ℕ → ℕ → Verdict
at_most p i most = cond (leb (word_at p i) most) done (refused OutOfRange i)

-- rule 3.4, `.all(|value| value.is_finite())` over the n words from i on: refused at the first that is not
unfoldable pub finite_from : List ℕ → ℕ → ℕ → Verdict
finite_from p i zero = done
finite_from p i (suc n) = cond (finite (float_at p i)) (finite_from p (i + 1) n) (refused NotFinite i)

-- rule 5.1, `p[o + 5].to_be_bytes().map(|c| c as f32 / 255.0)`
unfoldable pub color_of : ℕ → List Float
color_of w = unit_of (w / 16777216) ∷ unit_of (w / 65536 % 256) ∷ unit_of (w / 256 % 256) ∷ unit_of (w % 256) ∷ []

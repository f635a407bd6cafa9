-- Three rows, each of which is known. Assumes nothing.
use Rattle.std.proofs.Common.{◌≡◌, ℕ, ◌<◌, List, [], ◌∷◌, length, arith}
use Rattle.std.specs.Prelude.{Float}
use Rattle.light.specs.Light.{row_of, shade_at}
use Rattle.light.proofs.shade_three.Goals as goal

rows : (xs : List (List Float)) (f : ℕ → List Float) → length xs ≡ 3 → ((k : ℕ) → k < 3 → row_of xs k ≡ f k) → xs ≡ f 0 ∷ f 1 ∷ f 2 ∷ []
rows [] f n h = absurd (omega arith)
rows (x ∷ []) f n h = absurd (omega arith)
rows (x ∷ y ∷ []) f n h = absurd (omega arith)
rows (x ∷ y ∷ z ∷ []) f n h = rw (h 0 (omega arith), h 1 (omega arith), h 2 (omega arith))
rows (x ∷ y ∷ z ∷ w ∷ xs) f n h = absurd (omega arith)

pub returns : goal.returns
returns c = let a = c.args in
    rows c.loop-v.colors (shade_at a.albedos a.positions a.normals a.lights.now) c.loop-v.invariant.0 (λ k h. c.loop-v.invariant.1 k (omega arith))

-- Rule 1.5 as one record for each call: every answer with its case, both ways, and what it leaves. `proofs/Calls.antt` shows them. Definitions only.
use Rattle.std.specs.Prelude.{ℕ, ◌+◌, ◌*◌, ◌≤◌, ◌<◌, ◌≡◌, true, false, List, ℤ, Float, length}
use Rattle.screen.specs.Plane.{Answered, width, height, plane_bytes, nothing, four_from}
use Rattle.state.specs.State.{fresh, well_formed}
use Rattle.state.specs.declared.State.{State}
use Rattle.execute.specs.Kept.{machine, as_box}
use Rattle.run.specs.Framing.{run}
use Rattle.vpu.specs.Calls.{Outcome, Lengths, cleared}

-- P, D, F, C, T and M: what is lent
module _ (P : List ℕ) (D : List ℤ) (F : List Float) (C T M : List ℕ) where
  -- rule 1.4 holds of it
  abbrev pub Right : Type 0
  Right = Lengths (length P) (length D) (length F) (length C) (length T) (length M)

  -- o is what a feed comes to, with the state s and the words ws
  pub record Fed (s : State) (ws : List ℕ) (o : Outcome) : Type 0 where
    -- 1: exactly if a lent length is wrong
    pub one : o.answer ≡ 1 → Right → ⊥
    pub one_if : (Right → ⊥) → o.answer ≡ 1
    -- 2: exactly if no length is wrong and the state is malformed
    pub two : o.answer ≡ 2 → Right × (well_formed s (length T) (length M) ≡ false)
    pub two_if : Right → well_formed s (length T) (length M) ≡ false → o.answer ≡ 2
    -- 0: exactly if no length is wrong and the state is well formed
    pub zero : o.answer ≡ 0 → Right × (well_formed s (length T) (length M) ≡ true)
    pub zero_if : Right → well_formed s (length T) (length M) ≡ true → o.answer ≡ 0
    -- what the words leave
    pub done : o.answer ≡ 0 → o.machine ≡ run as_box (machine s P D F C T M) ws
    -- rule 1.6: the state as given, and all memory as it was
    pub refused : (o.answer ≡ 0 → ⊥) → o.machine ≡ machine s P D F C T M
    pub known : o.answer ≤ 2

  -- o is what a reset comes to
  pub record Reset (o : Outcome) : Type 0 where
    pub one : o.answer ≡ 1 → Right → ⊥
    pub one_if : (Right → ⊥) → o.answer ≡ 1
    pub zero : o.answer ≡ 0 → Right
    pub zero_if : Right → o.answer ≡ 0
    pub done : o.answer ≡ 0 → o.machine ≡ cleared P D F C T M
    -- rule 1.6: the fresh state, and all memory as it was
    pub refused : (o.answer ≡ 0 → ⊥) → o.machine ≡ machine fresh P D F C T M
    pub known : o.answer ≤ 1

-- a is the answer to reading a pixel
pub record Pixel (P : List ℕ) (x y : ℕ) (a : Answered) : Type 0 where
  -- 1: exactly if the length is wrong, and then four zeros
  pub one : a.number ≡ 1 → length P ≡ plane_bytes → ⊥
  pub one_if : (length P ≡ plane_bytes → ⊥) → a ≡ record { number = 1; bytes = nothing }
  pub zero : a.number ≡ 0 → length P ≡ plane_bytes
  pub zero_if : length P ≡ plane_bytes → a.number ≡ 0
  -- rule 1.7, off the screen
  pub right_of : length P ≡ plane_bytes → width ≤ x → a ≡ record { number = 0; bytes = nothing }
  pub below : length P ≡ plane_bytes → height ≤ y → a ≡ record { number = 0; bytes = nothing }
  -- rule 1.7, on it
  pub on : length P ≡ plane_bytes → x < width → y < height → a ≡ record { number = 0; bytes = four_from P ((y * width + x) * 4) }
  pub known : a.number ≤ 1

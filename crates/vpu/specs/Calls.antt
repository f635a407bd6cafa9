-- The public calls: what each answers, and the state and every lent element afterwards. Definitions only.
use Rattle.std.specs.Prelude.{ℕ, ◌≤◌, ◌<◌, ◌≡◌, Bool, cond, ◌&&◌, List, [], ◌∷◌, eqb, leb, ℤ, length, replicate, Float}
use Rattle.screen.specs.Plane.{plane_bytes}
use Rattle.screen.specs.Draw.{pixels}
use Rattle.screen.specs.Depths.{far_ints, far_floats}
use Rattle.store.specs.Uploads.{most_words}
use Rattle.state.specs.State.{most_payload, fresh, well_formed}
use Rattle.state.specs.declared.State.{State}
use Rattle.execute.specs.Kept.{Machine, machine, as_box}
use Rattle.run.specs.Framing.{run}
use Rattle.vpu.specs.declared.Answer.{Answer}
use Rattle.vpu.specs.declared.Answer.TheVariants.{Done, WrongLength, Malformed}

-- the numbers of the answers
abbrev pub number_of : Answer → ℕ
number_of Done = 0
number_of WrongLength = 1
number_of Malformed = 2

-- words of 32 bits
abbrev pub Small : List ℕ → Type 0
Small [] = Unit {0}
Small (w ∷ ws) = (w < 4294967296) × Small ws

-- a call's answer, and all that it leaves
pub record Outcome : Type 0 where
  pub answer : ℕ
  pub machine : Machine

abbrev pub outcome : ℕ → Machine → Outcome
outcome n m = record { answer = n; machine = m }

-- rule 1.4
pub record Lengths (p d f c t m : ℕ) : Type 0 where
  pub of-plane : p ≡ plane_bytes
  pub of-depth : d ≡ pixels
  pub of_floats : f ≡ pixels
  pub of-command : c ≡ most_payload
  pub of-textures : t ≤ most_words
  pub of-models : m ≤ most_words

-- the same, as a test
unfoldable pub lengths_ok : ℕ → ℕ → ℕ → ℕ → ℕ → ℕ → Bool
lengths_ok p d f c t m =
    eqb p plane_bytes && (eqb d pixels && (eqb f pixels && (eqb c most_payload && (leb t most_words && leb m most_words))))

-- rules 1.5 and 1.6, of a feed: the lengths are tested before the state
unfoldable pub feed : State → List ℕ → List ℕ → List ℤ → List Float → List ℕ → List ℕ → List ℕ → Outcome
feed s ws P D F C T M =
    let m : Machine = machine s P D F C T M in
    cond (lengths_ok (length P) (length D) (length F) (length C) (length T) (length M))
    (cond (well_formed s (length T) (length M)) (outcome 0 (run as_box m ws)) (outcome 2 m))
    (outcome 1 m)

-- rule 1.8
unfoldable pub cleared : List ℕ → List ℤ → List Float → List ℕ → List ℕ → List ℕ → Machine
cleared P D F C T M =
    machine fresh (replicate (length P) 0) (far_ints (length D)) (far_floats (length F)) C (replicate (length T) 0) (replicate (length M) 0)

-- rules 1.5 and 1.6, of a reset
unfoldable pub reset : List ℕ → List ℤ → List Float → List ℕ → List ℕ → List ℕ → Outcome
reset P D F C T M =
    cond (lengths_ok (length P) (length D) (length F) (length C) (length T) (length M)) (outcome 0 (cleared P D F C T M)) (outcome 1 (machine fresh P D F C T M))

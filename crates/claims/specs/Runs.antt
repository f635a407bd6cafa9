-- A run of calls (rule 10.4), of demand 3, and the plain machine over the same calls. Definitions only.
use Rattle.std.specs.Prelude.{ℕ, ◌≡◌, Bool, true, cond, List, [], ◌∷◌, eqb, length}
use Rattle.store.specs.declared.Kind.{Kind}
use Rattle.store.specs.declared.Kind.TheVariants.{Texture, Model}
use Rattle.execute.specs.Control.{Seen}
use Rattle.execute.specs.Kept.{Machine, machine, state_of}
use Rattle.run.specs.Framing.{run}
use Rattle.vpu.specs.Calls.{Small, Outcome, feed, reset}
use Rattle.claims.specs.Plain.{Past, as_past, plain_start}

-- ---- a call, on a state with its buffers
abbrev pub feed_on : Machine → List ℕ → Outcome
feed_on m ws =
    feed (state_of m) ws m.picture.plane m.picture.depth m.picture.depth_f m.control.box.area m.control.box.textures.words m.control.box.models.words

abbrev pub reset_on : Machine → Outcome
reset_on m =
    reset m.picture.plane m.picture.depth m.picture.depth_f m.control.box.area m.control.box.textures.words m.control.box.models.words

-- ---- what a call is given
-- which of the six buffers are the run's own
pub record Own : Type 0 where
  pub plane : Bool
  pub depth : Bool
  pub depth_f : Bool
  pub area : Bool
  pub textures : Bool
  pub models : Bool

-- b, with those buffers of a
abbrev pub mixed : Own → Machine → Machine → Machine
mixed o a b =
    machine (state_of b) (cond o.plane a.picture.plane b.picture.plane) (cond o.depth a.picture.depth b.picture.depth)
    (cond o.depth_f a.picture.depth_f b.picture.depth_f) (cond o.area a.control.box.area b.control.box.area)
    (cond o.textures a.control.box.textures.words b.control.box.textures.words) (cond o.models a.control.box.models.words b.control.box.models.words)

-- the state as returned and the same buffers; or any other state and any other buffers, some of which may be the run's own
pub data Given : Type 0 where
  own : Given
  other : Own → Machine → Given

pub data Call : Type 0 where
  feeds : Given → List ℕ → Call
  resets : Given → Call

abbrev pub lent : Machine → Given → Machine
lent m own = m
lent m (other o x) = mixed o m x

abbrev pub given_to : Call → Given
given_to (feeds g ws) = g
given_to (resets g) = g

abbrev pub outcome_of : Machine → Call → Outcome
outcome_of m (feeds g ws) = feed_on (lent m g) ws
outcome_of m (resets g) = reset_on (lent m g)

-- ---- a run
-- rule 10.4: after a refused call the run goes on from the state before it, with its own buffers as the refused call left them
abbrev pub goes_on : Machine → Given → Machine → Machine
goes_on m own x = mixed (record { plane = true; depth = true; depth_f = true; area = true; textures = true; models = true }) x m
goes_on m (other o y) x = mixed o x m

unfoldable pub after : Machine → Call → Machine
after m c = cond (eqb (outcome_of m c).answer 0) (outcome_of m c).machine (goes_on m (given_to c) (outcome_of m c).machine)

unfoldable pub after_all : Machine → List Call → Machine
after_all m [] = m
after_all m (c ∷ cs) = after_all (after m c) cs

-- a call that a run may have: with its own state and buffers, and words of 32 bits; or any other call that is refused
abbrev pub Allowed : Machine → Call → Type 0
Allowed m (feeds own ws) = Small ws
Allowed m (resets own) = Unit {0}
Allowed m (feeds (other o x) ws) = (outcome_of m (feeds (other o x) ws)).answer ≡ 0 → ⊥
Allowed m (resets (other o x)) = (outcome_of m (resets (other o x))).answer ≡ 0 → ⊥

unfoldable pub AllAllowed : Machine → List Call → Type 0
AllAllowed m [] = Unit {0}
AllAllowed m (c ∷ cs) = Allowed m c × AllAllowed (after m c) cs

-- ---- the plain machine, over the same calls
-- the lengths of the stores, which stay as they are in a run
abbrev pub sizes : List ℕ → List ℕ → Kind → ℕ
sizes T M Texture = length T
sizes T M Model = length M

-- rule 10.4: a refused call adds no history, and a reset answered 0 empties it
unfoldable pub plain_after : (Kind → ℕ) → Seen Past → Call → Seen Past
plain_after size n (feeds own ws) = run (as_past size) n ws
plain_after size n (resets own) = plain_start
plain_after size n (feeds (other o x) ws) = n
plain_after size n (resets (other o x)) = n

unfoldable pub plain_all : (Kind → ℕ) → Seen Past → List Call → Seen Past
plain_all size n [] = n
plain_all size n (c ∷ cs) = plain_all size (plain_after size n c) cs

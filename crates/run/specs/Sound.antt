-- What the loop over the words asks of a machine. Definitions only.
use Rattle.std.specs.Prelude.{ℕ, ◌≡◌, true}
use Rattle.screen.specs.Plane.{plane_bytes}
use Rattle.screen.specs.Draw.{pixels}
use Rattle.store.specs.declared.Kind.TheVariants.{Texture, Model}
use Rattle.state.specs.State.{most_payload, begun_ok}
use Rattle.state.specs.declared.State.{State}
use Rattle.execute.specs.Kept.{Formed}

-- a machine that words may be run on: lent memories of these lengths, a begun command and stores that are well formed
pub record Sound (s : State) (plane depth depth_f command textures models : ℕ) : Type 0 where
  pub of-plane : plane ≡ plane_bytes
  pub of-depth : depth ≡ pixels
  pub of_floats : depth_f ≡ pixels
  pub of-command : command ≡ most_payload
  pub begun : begun_ok s.opcode s.gathered s.wanted ≡ true
  pub of-textures : Formed Texture s.textures textures
  pub of-models : Formed Model s.models models

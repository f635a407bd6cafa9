-- The state as plain data and the state of the machine, each from the other: switches are bytes, and settings are fields of the state itself. And a pixel as plain data. Definitions only.
use Rattle.std.specs.Prelude.{ℕ, Bool, true, false, not, ◌&&◌, [], ◌∷◌, map, eqb, leb}
use Rattle.screen.specs.Plane.{Answered}
use Rattle.light.specs.declared.Light.{Light}
use Rattle.store.specs.declared.Slot.{Slot}
use Rattle.std.specs.List.{list_all}
use Rattle.state.specs.declared.State.{State}
use Rattle.plain.specs.declared.VpuLight.{VpuLight}
use Rattle.plain.specs.declared.VpuSlot.{VpuSlot}
use Rattle.plain.specs.declared.VpuState.{VpuState}
use Rattle.plain.specs.declared.VpuColour.{VpuColour}

-- a switch as a byte, a byte as a switch, and whether the byte is one
abbrev pub switch_of : Bool → ℕ
switch_of true = 1
switch_of false = 0

abbrev pub is_on : ℕ → Bool
is_on b = not (eqb b 0)

abbrev pub is_switch : ℕ → Bool
is_switch b = leb b 1

-- a light: a switch and fifteen floats
abbrev pub light_in : VpuLight → Light
light_in l = record {
  enabled = is_on l.enabled;
  ambient = l.ambient;
  diffuse = l.diffuse;
  specular = l.specular;
  emission = l.emission;
  position = l.position;
}

abbrev pub light_out : Light → VpuLight
light_out l = record {
  enabled = switch_of l.enabled;
  ambient = l.ambient;
  diffuse = l.diffuse;
  specular = l.specular;
  emission = l.emission;
  position = l.position;
}

-- a slot
abbrev pub slot_in : VpuSlot → Slot
slot_in s = record { held = is_on s.held; number = s.number; width = s.width; height = s.height; start = s.start }

abbrev pub slot_out : Slot → VpuSlot
slot_out s = record { held = switch_of s.held; number = s.number; width = s.width; height = s.height; start = s.start }

-- rule 1.15: the state as plain data
abbrev pub state_in : VpuState → State
state_in v = record {
  settings = record {
    matrices = v.matrices;
    shading_mode = v.shading_mode;
    lighting_enabled = is_on v.lighting_enabled;
    lights = map light_in v.lights;
  };
  textures = map slot_in v.textures;
  models = map slot_in v.models;
  opcode = v.opcode;
  gathered = v.gathered;
  wanted = v.wanted;
  notes = record { status = v.status };
}

abbrev pub state_out : State → VpuState
state_out s = record {
  matrices = s.settings.matrices;
  shading_mode = s.settings.shading_mode;
  lighting_enabled = switch_of s.settings.lighting_enabled;
  lights = map light_out s.settings.lights;
  textures = map slot_out s.textures;
  models = map slot_out s.models;
  opcode = s.opcode;
  gathered = s.gathered;
  wanted = s.wanted;
  status = s.notes.status;
}

-- is every switch 0 or 1?
abbrev pub light_switch : VpuLight → Bool
light_switch l = is_switch l.enabled

abbrev pub slot_switch : VpuSlot → Bool
slot_switch s = is_switch s.held

unfoldable pub switches_ok : VpuState → Bool
switches_ok v =
    is_switch v.lighting_enabled
    && (list_all light_switch v.lights && (list_all slot_switch v.textures && list_all slot_switch v.models))

-- a pixel: the number and the four bytes of the answer
abbrev pub shown : VpuColour → Answered
shown c = record { number = c.answer; bytes = c.r ∷ c.g ∷ c.b ∷ c.a ∷ [] }

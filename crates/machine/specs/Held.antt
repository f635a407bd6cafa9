-- What a program's machine holds, as the machine of the calls. Definitions only.
use Rattle.execute.specs.Kept as kept
use Rattle.machine.specs.declared.Machine.{Machine}

-- the state and the six memories
abbrev pub held : Machine → kept.Machine
held m = kept.machine m.state m.plane.items m.depth.items m.depth_f32.items m.command.items m.textures.items m.models.items

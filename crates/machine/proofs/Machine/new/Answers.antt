-- `Machine::new`: each memory is as long as it was asked to be. If the check has to find this, it counts a memory's elements one by one. Assumes nothing.
use Rattle.machine.proofs.Machine.new.Goals as goal

pub returns-clause-plane_len : goal.returns-clause-plane_len
returns-clause-plane_len c = c.in_ok-vec.ensures.len

pub returns-clause-depth_len : goal.returns-clause-depth_len
returns-clause-depth_len c = c.in_ok-vec-2.ensures.len

pub returns-clause-depth_f32_len : goal.returns-clause-depth_f32_len
returns-clause-depth_f32_len c = c.in_ok-vec-3.ensures.len

pub returns-clause-command_len : goal.returns-clause-command_len
returns-clause-command_len c = c.in_ok-vec-4.ensures.len

-- The calls as a host in C sees them: the answer's number, the state as plain data, and every lent element afterwards. Definitions only.
use Rattle.std.specs.Prelude.{ℕ, cond, List, ℤ, length, Float}
use Rattle.execute.specs.Kept.{state_of}
use Rattle.vpu.specs.Calls as vpu
use Rattle.plain.specs.Plain.{state_in, state_out, switches_ok}
use Rattle.plain.specs.declared.VpuState.{VpuState}
use Rattle.vpu.specs.declared.Fed.{Fed}
use Rattle.vpu_c.specs.declared.VpuFed.{VpuFed}

-- what a call answers, put out: the number of the answer, and the state as plain data
abbrev pub put_fed : Fed → VpuFed
put_fed f = record { answer = vpu.number_of f.answer; state = state_out f.state }

-- a call's answer, and all that it leaves
pub record Handed : Type 0 where
  pub answer : ℕ
  pub state : VpuState
  pub plane : List ℕ
  pub depth : List ℤ
  pub depth_f : List Float
  pub command : List ℕ
  pub textures : List ℕ
  pub models : List ℕ

abbrev pub handed : ℕ → VpuState → List ℕ → List ℤ → List Float → List ℕ → List ℕ → List ℕ → Handed
handed n v P D F C T M = record { answer = n; state = v; plane = P; depth = D; depth_f = F; command = C; textures = T; models = M }

-- what the machine's own call leaves, with the state put out as plain data
abbrev pub put_out : vpu.Outcome → Handed
put_out o =
    handed o.answer (state_out (state_of o.machine)) o.machine.picture.plane o.machine.picture.depth o.machine.picture.depth_f
    o.machine.control.box.area o.machine.control.box.textures.words o.machine.control.box.models.words

-- `vpu_reset`
abbrev pub reset_c : List ℕ → List ℤ → List Float → List ℕ → List ℕ → List ℕ → Handed
reset_c P D F C T M = put_out (vpu.reset P D F C T M)

-- rule 1.15, `vpu_feed`: after the lengths a switch above 1 is malformed
unfoldable pub feed_c : VpuState → List ℕ → List ℕ → List ℤ → List Float → List ℕ → List ℕ → List ℕ → Handed
feed_c v ws P D F C T M =
    cond (vpu.lengths_ok (length P) (length D) (length F) (length C) (length T) (length M))
    (cond (switches_ok v) (put_out (vpu.feed (state_in v) ws P D F C T M)) (handed 2 v P D F C T M))
    (handed 1 v P D F C T M)

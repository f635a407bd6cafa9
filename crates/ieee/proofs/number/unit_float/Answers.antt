-- By definition. Assumes nothing.
use Rattle.ieee.proofs.number.unit_float.Goals as goal

pub returns : goal.returns
returns c = rw c.byte_float.ensures

-- By what the machine's call ensures, its state put out. Assumes nothing.
use Rattle.vpu_c.proofs.Laws.{put_out_lem}
use Rattle.vpu_c.proofs.vpu_reset.Goals as goal

pub returns : goal.returns
returns c = put_out_lem c.reset.result c.reset.ensures c.from.ensures

-- What `upload` says of the store, as one equation. Assumes nothing.
use Rattle.execute.proofs.Laws.{refused-for, kept-is}
use Rattle.execute.proofs.upload.keep.Goals as goal

pub returns : goal.returns
returns c = kept-is _ _ _ _ c.upload.ensures (refused-for c.upload.result _ c.map_err.ensures.cases)

-- `clip::vertex::mix_vertex` meets its contract: each field is what the call for it ensures. Assumes nothing.
use Rattle.clip.specs.Vertices.{mix_vertex}
use Rattle.clip.proofs.vertex.mix_vertex.Goals as goal

pub returns : goal.returns
unfolding mix_vertex
returns c = cc

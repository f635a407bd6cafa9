-- `words::words_of` meets its contract: the chunk at j is the word at byte j * 4 (`Read.antt`). Assumes nothing.
use Rattle.std.proofs.Common.{◌≡◌, ◌*◌, ◌/◌, ◌<◌, [], ◌≢◌, length, arith, ◌∙◌, get_or-set_other, get_or-set_same, below_more}
use Rattle.words.specs.Little.{word_at}
use Rattle.words.proofs.Read.{word_is}
use Rattle.words.proofs.words_of.Goals as goal

pub loop-j-preserved : goal.loop-j-preserved
loop-j-preserved c = let j = c.loop-j.j in
    let read : c.from_le_bytes.result ≡ word_at c.args.bytes.now (j * 4) = (rw c.as_chunks.ensures.front at c.from_le_bytes.ensures) ∙ word_is (length c.args.bytes.now / 4) j c.args.bytes.now [] (omega arith) in
    below_more _ _
    (λ k h. let ne : k ≢ j = omega arith in rw get_or-set_other (c.loop-j.invariant k h))
    (let lt : j < length c.loop-j.words = omega arith in rw get_or-set_same read)

-- `words::words_of`: the words written so far are those of the bytes. Assumes nothing.
use Rattle.std.proofs.Common.{◌≡◌, ℕ, ◌*◌, ◌<◌, get_or}
use Rattle.words.specs.Little.{word_at}
use Rattle.words.proofs.words_of.Given as goal

abbrev pub invariant-loop-j : goal.invariant-loop-j
invariant-loop-j l = (k : ℕ) → k < l.j → get_or l.words k 0 ≡ word_at l.bytes (k * 4)

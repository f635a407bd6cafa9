use Rattle.std.proofs.Common.{◌≡◌, ℕ, ◌+◌, ◌<◌, List, length, get_or, set, sym, ◌∙◌, subst, zero-add, arith}
use lib.ListN.{length-map, get_or-map}
use lib.Seq.{paste}
use lib.Ieee.{Float, binary32, of_bits}
use Rattle.laws.proofs.Paste.{paste_turn}
use Rattle.ieee.specs.Words.{floats_of}
use Rattle.ieee.proofs.bits.floats_of.Goals as goal

turn : (ws : List ℕ) (d : List Float) → length ws ≡ length d → (l : List Float) (i : ℕ) (v : Float) → l ≡ paste d 0 (floats_of ws) i → v ≡ of_bits binary32 (get_or ws i 0) → i < length ws → set l i v ≡ paste d 0 (floats_of ws) (i + 1)
turn ws d same l i v e f h =
    subst (λ (j : ℕ). set l j v ≡ paste d 0 (floats_of ws) (i + 1)) (zero-add i)
    (paste_turn (of_bits binary32 0) l d 0 (floats_of ws) i v e (f ∙ sym (get_or-map (of_bits binary32) ws i 0)) (omega arith) (omega (arith, length-map ws (of_bits binary32))))

pub loop-i-preserved : goal.loop-i-preserved
loop-i-preserved c = turn c.args.words.now c.args.out.now c.requires c.loop-i.out c.loop-i.i _ c.loop-i.invariant c.float_of.ensures (omega arith)

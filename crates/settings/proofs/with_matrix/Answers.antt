-- The part of the matrices that the floats are written to is pasted over. Assumes nothing.
use Prim.Native.Nat.{ℕ, ◌+◌, ◌-◌, ◌*◌}
use mathlib.Core.Path.{◌≡◌}
use mathlib.Core.List.{List, append_assoc}
use native.Mathlib.Omega.{arith}
use borrow.Author.Rules.{rules}
use borrow.Rule.Slice.PartMut.{put_mid, Post-is}
use lib.ListN.{length, take, drop, length-map, length-drop}
use lib.Seq.{paste, take_all}
use lib.Ieee.{Float, binary32, of_bits}
use Rattle.ieee.specs.Words.{floats_of}
use Rattle.payload.specs.Words.{word_at}
use Rattle.settings.specs.Settings.{with_matrix}
use Rattle.settings.proofs.with_matrix.Goals as goal

-- the part with the floats in it, put back, is the paste of all sixteen
module _ (p : List ℕ) (long : length p ≡ 17) where
  stored : (m out : List Float) (a : ℕ) → out ≡ floats_of (take 16 (drop 1 p)) → put_mid a (a + 16 - a) m out ≡ paste m a (floats_of (drop 1 p)) 16
  stored m out a e =
      let rest : length (drop 1 p) ≡ 16 = omega (arith, length-drop 1 p) in
      let some : take 16 (drop 1 p) ≡ drop 1 p = take_all 16 (drop 1 p) (omega arith) in
      let all : take 16 (floats_of (drop 1 p)) ≡ floats_of (drop 1 p) = take_all 16 (floats_of (drop 1 p)) (omega (arith, length-map (drop 1 p) (of_bits binary32))) in
      rw (e, some, Post-is a (a + 16) m (omega arith), all, append_assoc)

pub returns : goal.returns
unfolding with_matrix
returns c = rw (stored c.args.p.now (search rules) c.args.s.matrices _ (word_at c.args.p.now 0 * 16) c.floats_of.ensures)

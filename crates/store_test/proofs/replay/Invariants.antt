-- `store_test::replay`: the store's size stays within the room, and each record leaves fewer words. Assumes nothing.
use Prim.Native.Nat.{◌≤◌}
use lib.ListN.{length}
use Rattle.store_test.proofs.replay.Given as goal

abbrev pub invariant-loop-record : goal.invariant-loop-record
invariant-loop-record l = l.size ≤ length l.room

abbrev pub decreases-loop-record : goal.decreases-loop-record
decreases-loop-record l = length l.left

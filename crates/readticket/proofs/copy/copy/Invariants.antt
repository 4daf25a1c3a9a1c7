-- `copy::copy` meets its contract: each block begins where the bytes before it are copied, and the last one ends with the slice. Assumes nothing.
use Prim.Native.Nat.{◌-◌}
use lib.ListN.{length}
use Rattle.readticket.proofs.Blocks.{Begun}
use Rattle.readticket.proofs.copy.copy.Given as goal

abbrev pub invariant-loop-i : goal.invariant-loop-i
invariant-loop-i l = Begun l.from l.to l.i

abbrev pub decreases-loop-i : goal.decreases-loop-i
decreases-loop-i l = length l.from - l.i

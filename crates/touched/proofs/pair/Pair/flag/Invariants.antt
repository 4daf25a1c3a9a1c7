-- `Pair::flag` meets its contract: the flags passed are those of the entries passed. Assumes nothing.
use Rattle.touched.proofs.Pairs.{Flagged}
use Rattle.touched.proofs.pair.Pair.flag.Given as goal

abbrev pub invariant-loop-k : goal.invariant-loop-k
invariant-loop-k l = Flagged l.self.before.image.now l.self.after.now l.flags l.self.before.shape.entries l.k

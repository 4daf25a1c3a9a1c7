-- `Pair::same_chain` meets its contract: what is left to compare at sector i is what there was to compare at the first. Assumes nothing.
use Rattle.std.proofs.Common.{◌≡◌, ◌-◌}
use Rattle.chains.specs.Chain.{Sector}
use Rattle.touched.specs.Together.{chains_same}
use Rattle.touched.proofs.pair.Pair.same_chain.Given as goal

abbrev pub invariant-loop-passed : goal.invariant-loop-passed
invariant-loop-passed l =
    Sector l.self.before.shape.sectors l.i
    × (chains_same l.self.before.image.now l.self.after.now l.i (l.self.before.shape.sectors - 3 - l._passed)
    ≡ chains_same l.self.before.image.now l.self.after.now l.j (l.self.before.shape.sectors - 3))

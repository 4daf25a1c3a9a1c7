-- `Table::follow` meets its contract: at each turn the walk from here with what is left is the walk from the start. Assumes nothing.
use Rattle.std.proofs.Common.{◌≡◌, ℕ}
use Rattle.chains.specs.Chain.{Sector}
use Rattle.chains.specs.Packed.{element_in}
use Rattle.chains.specs.Owners.{follow}
use Rattle.chains.specs.declared.packed.Table.{Table}
use Rattle.chains.proofs.packed.Table.follow.Given as goal

abbrev pub elements : Table → ℕ → ℕ
elements t = element_in t.bytes.now t.place.first t.place.psi

abbrev pub invariant-loop-owner : goal.invariant-loop-owner
invariant-loop-owner l = Sector l.self.place.sectors l.i × (follow (elements l.self) l.self.place.sectors l.k l.n l.owner l.i ≡ follow (elements l.self) l.self.place.sectors l.k l.left l.initial.owner l.k)

abbrev pub decreases-loop-owner : goal.decreases-loop-owner
decreases-loop-owner l = l.n

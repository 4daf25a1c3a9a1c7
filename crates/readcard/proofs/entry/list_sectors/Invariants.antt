-- `entry::list_sectors` meets its contract: the loop keeps that the sectors passed are listed and that i is the next one. Assumes nothing.
use mathlib.Core.Path.{◌≡◌}
use Prim.Native.Nat.{◌<◌}
use lib.ListN.{get_or}
use Rattle.image.specs.Image.{sectors}
use Rattle.reads.proofs.Copied.{copied}
use Rattle.readcard.proofs.entry.list_sectors.Given as goal

abbrev pub invariant-loop-sector : goal.invariant-loop-sector
invariant-loop-sector l =
    let is = sectors l.found.card.image.now l.found.entry in
    (l.sector-items ≡ copied is l.initial.sector-items l.sector-index) × (l.sector-index < l.found.chain.count → l.i ≡ get_or is l.sector-index 0)

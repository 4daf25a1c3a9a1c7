-- The walk of `Table::walk_told` ends: `allowed` falls.
use Rattle.chains.proofs.packed.Table.+walk_told.Given as goal

abbrev pub decreases-walk_told : goal.decreases-walk_told
decreases-walk_told l = l.allowed

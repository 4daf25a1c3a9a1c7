-- `fields::read` meets its contract. The invariant: the first i values are those of the list. Assumes nothing.
use Rattle.fields.specs.Lists.{list_of}
use Rattle.fields.specs.Fields.{fields}
use Rattle.fields.proofs.Loops.{Filled}
use Rattle.fields.proofs.read.Given as goal

abbrev pub invariant-loop-i : goal.invariant-loop-i
invariant-loop-i l = Filled (fields l.s (list_of l.fn.k)) l.out l.i

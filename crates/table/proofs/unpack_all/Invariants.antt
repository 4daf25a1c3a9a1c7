-- `table::unpack_all` meets its contract. The invariant: the first i elements are those of the list. Assumes nothing.
use Rattle.std.proofs.Common.{length}
use Rattle.fields.specs.Fields.{fields}
use Rattle.fields.proofs.Loops.{Filled}
use Rattle.table.specs.Table.{places}
use Rattle.table.proofs.unpack_all.Given as goal

abbrev pub invariant-loop-i : goal.invariant-loop-i
invariant-loop-i l = Filled (fields l.bytes (places l.psi 0 (length l.initial.out))) l.out l.i

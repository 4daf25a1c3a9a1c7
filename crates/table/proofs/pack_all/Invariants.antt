-- `table::pack_all` meets its contract. The invariant: what is still to be packed makes the same of the bytes. Assumes nothing.
use Rattle.std.proofs.Common.{◌≡◌, ◌-◌, ◌*◌, length, drop}
use Rattle.fields.specs.Fields.{stores}
use Rattle.table.specs.Table.{places}
use Rattle.table.proofs.pack_all.Given as goal

abbrev pub invariant-loop-i : goal.invariant-loop-i
invariant-loop-i l =
    stores l.out (places l.psi (l.psi * l.i) (length l.elements - l.i)) (drop l.i l.elements)
    ≡ stores l.initial.out (places l.psi 0 (length l.elements)) l.elements

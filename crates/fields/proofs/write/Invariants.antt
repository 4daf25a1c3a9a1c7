-- `fields::write` meets its contract. The invariant: what is still to be stored makes the same of the bytes. Assumes nothing.
use mathlib.Core.Path.{◌≡◌}
use lib.ListN.{length, drop}
use Rattle.fields.specs.Lists.{list_of}
use Rattle.fields.specs.Fields.{stores}
use Rattle.fields.proofs.write.Given as goal

abbrev pub invariant-loop-place : goal.invariant-loop-place
invariant-loop-place l =
    stores l.s (drop (length l.yielded) (list_of l.fn.k)) (drop (length l.yielded) l.values) ≡ stores l.initial.s (list_of l.fn.k) l.values

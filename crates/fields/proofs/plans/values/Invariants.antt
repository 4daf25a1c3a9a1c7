-- `plans::values` meets its contract. Both loops keep: the first values are read, and zeros stand after them; the outer one also that the parts left are all of
-- the places left. Assumes nothing.
use mathlib.Core.Path.{◌≡◌}
use Prim.Native.Nat.{◌≤◌}
use lib.Dec.{T}
use lib.ListN.{length, take, drop}
use Rattle.fields.specs.Fields.{fields}
use Rattle.fields.specs.Lists.{list_of}
use Rattle.fields.specs.Padded.{held}
use Rattle.fields.specs.Plans.{end_in, cut}
use Rattle.fields.proofs.plans.values.Given as goal

abbrev pub invariant-loop-i : goal.invariant-loop-i
invariant-loop-i g l = l.values ≡ held (take l.i (fields l.s (list_of g.L.List.layout)))

abbrev pub invariant-loop-part : goal.invariant-loop-part
invariant-loop-part g l = record {
  room : l.first ≤ length (list_of g.L.List.layout);
  read : l.values ≡ held (take l.first (fields l.s (list_of g.L.List.layout)));
  ends : end_in l.from (drop l.part-index l.part-items) ≡ end_in 2 l.part-items;
  left : T (cut l.from (drop l.first (list_of g.L.List.layout)) (drop l.part-index l.part-items));
}

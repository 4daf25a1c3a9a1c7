-- `plans::lay` meets its contract. Where the values fit, the loop keeps: the first values are stored, and the parts left are all of the places left. Assumes nothing.
use mathlib.Core.Path.{◌≡◌}
use Prim.Native.Nat.{◌≤◌}
use lib.Dec.{T}
use lib.ListN.{length, drop}
use Rattle.bits.specs.Bits.{Bytes}
use Rattle.fields.specs.Lists.{list_of}
use Rattle.fields.specs.Plans.{end_in, cut}
use Rattle.fields.proofs.Planned.{up_to}
use Rattle.fields.proofs.plans.lay.Given as goal

abbrev pub invariant-loop-part : goal.invariant-loop-part
invariant-loop-part g l = record {
  room : l.first ≤ length (list_of g.L.List.layout);
  bytes : Bytes l.initial.s;
  size : length l.s ≡ length l.initial.s;
  stored : l.s ≡ up_to g.L.List.layout l.initial.s l.values l.first;
  ends : end_in l.from (drop l.part-index l.part-items) ≡ end_in 2 l.part-items;
  left : T (cut l.from (drop l.first (list_of g.L.List.layout)) (drop l.part-index l.part-items));
}

-- `plans::together` meets its contract: each turn puts one value more behind the number, and at most 56 bits wrap nowhere. Assumes nothing.
use mathlib.Core.Path.{◌≡◌}
use Prim.Native.Nat.{◌-◌}
use Rattle.fields.specs.Lists.{list_of}
use Rattle.fields.specs.Plans.{values_of}
use Rattle.fields.specs.Together.{together}
use Rattle.fields.proofs.plans.together.Given as goal

abbrev pub invariant-loop-i : goal.invariant-loop-i
invariant-loop-i g l = l.x ≡ together (list_of g.L.List.layout) (values_of g.L.List.layout l.values) l.first (l.i - l.first)

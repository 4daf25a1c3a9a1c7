-- `bits::load` meets its contract. The loop's invariant: the number holds the bytes passed. Assumes nothing.
use mathlib.Core.Path.{◌≡◌}
use Prim.Native.Nat.{◌*◌}
use Rattle.bits.specs.Bits.{field}
use Rattle.bits.proofs.load.Given as goal

abbrev pub invariant-loop-b : goal.invariant-loop-b
invariant-loop-b l = l.x ≡ field l.s (8 * l.from) (8 * l.b-index)

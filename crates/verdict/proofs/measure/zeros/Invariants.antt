-- `measure::zeros` meets its contract: the bytes passed carry 0. Assumes nothing.
use mathlib.Core.Path.{◌≡◌}
use Prim.Native.Nat.{◌+◌, ◌*◌}
use Rattle.bits.specs.Bits.{field}
use Rattle.verdict.proofs.measure.zeros.Given as goal

abbrev pub invariant-loop-k : goal.invariant-loop-k
invariant-loop-k l = field l.image (8 * l.from) (8 * (2 + 4 * l.k)) ≡ 0

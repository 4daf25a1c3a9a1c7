-- `crc::pairs` meets its contract: what is left of the bytes makes the same of the register at each turn. Assumes nothing.
use mathlib.Core.Path.{◌≡◌}
use Prim.Native.Nat.{◌*◌, ◌^◌, ◌<◌}
use lib.ListN.{drop}
use Rattle.crc.specs.Crc.{register}
use Rattle.crc.proofs.pairs.Given as goal

abbrev pub invariant-loop-pair : goal.invariant-loop-pair
invariant-loop-pair l = (l.r < 2 ^ 16) × (register l.r (drop (2 * l.pair-index) l.s) ≡ register l.at l.s)

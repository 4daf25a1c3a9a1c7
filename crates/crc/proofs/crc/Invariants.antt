-- `crc::crc` meets its contract: what is left of the bytes makes the same of the register at each turn. Assumes nothing.
use mathlib.Core.Path.{◌≡◌}
use Prim.Native.Nat.{◌+◌, ◌*◌, ◌^◌, ◌<◌}
use lib.ListN.{length, drop}
use Rattle.crc.specs.Crc.{register}
use Rattle.crc.proofs.crc.Given as goal

abbrev pub invariant-loop-eight : goal.invariant-loop-eight
invariant-loop-eight l =
    (l.at < 2 ^ 64) × (length l.s < 8 * l.eight-index + 6 → l.at < 2 ^ 16) × (register l.at (drop (8 * l.eight-index) l.s) ≡ register 0xFFFF l.s)

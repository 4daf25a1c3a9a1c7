-- `crc::word` meets its contract. The loop's invariant: the number is that of the bytes passed. Assumes nothing.
use mathlib.Core.Path.{◌≡◌}
use lib.ListN.{take}
use Rattle.crc.specs.Little.{little}
use Rattle.crc.proofs.word.Given as goal

abbrev pub invariant-loop-k : goal.invariant-loop-k
invariant-loop-k g l = l.x ≡ little (take l.k l.s)

-- `hex::read`: each turn puts one more of the word's bytes at the front of the buffer.
use Rattle.std.proofs.Common.{◌≡◌, length, take}
use Rattle.text.specs.Words.{fronted}
use Rattle.text.specs.Hex.{bytes_in}
use Rattle.text.proofs.hex.read.Given as goal

abbrev pub invariant-loop-i : goal.invariant-loop-i
invariant-loop-i l = (length l.into ≡ length l.fn.into) × (l.into ≡ fronted (take l.i (bytes_in l.word)) l.fn.into)

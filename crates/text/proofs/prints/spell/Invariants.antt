-- `spell`: each turn puts two more of the digits.
use Rattle.std.proofs.Common.{◌≡◌, ◌*◌, take}
use Rattle.text.specs.Printed.{pairs_spelled}
use Rattle.text.proofs.prints.spell.Given as goal

abbrev pub invariant-loop-i : goal.invariant-loop-i
invariant-loop-i l = take (2 * l.i) l.space ≡ pairs_spelled (take l.i l.bytes)

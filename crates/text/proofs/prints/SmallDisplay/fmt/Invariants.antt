-- `Small`: each turn writes one more of the values.
use Rattle.std.proofs.Common.{take}
use Rattle.std.specs.Fmt.{HasWritten, IsPlainFormatter}
use Rattle.text.specs.Printed.{each_spelled}
use Rattle.text.proofs.prints.SmallDisplay.fmt.Given as goal

abbrev pub invariant-loop-b : goal.invariant-loop-b
invariant-loop-b g l =
    IsPlainFormatter l.initial.f → HasWritten g.W.Write.write_str_gives l.initial.f (each_spelled (take l.b-index l.self.0.now)) l.f

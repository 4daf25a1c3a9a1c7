-- `feed::shift`: after each turn one byte more stands at the front, and what is still to be moved is as it was.
use Rattle.std.proofs.Common.{◌≡◌, length}
use Rattle.text.specs.Lines.{moved}
use Rattle.text.proofs.feed.shift.Given as goal

abbrev pub invariant-loop-i : goal.invariant-loop-i
invariant-loop-i l = (length l.input ≡ length l.fn.input) × (l.input ≡ moved l.from l.i l.fn.input)

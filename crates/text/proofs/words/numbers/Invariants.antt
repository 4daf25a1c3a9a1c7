-- `words::numbers`: what is left of the line gives the other numbers.
use Rattle.std.proofs.Common.{◌-◌, length}
use Rattle.text.proofs.Numbered.{Reading}
use Rattle.text.proofs.words.numbers.Given as goal

abbrev pub invariant-loop-at : goal.invariant-loop-at
invariant-loop-at l = Reading l.line l.fn.list l.list l.at l.count

abbrev pub decreases-loop-at : goal.decreases-loop-at
decreases-loop-at l = length l.line - l.at

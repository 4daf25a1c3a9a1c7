-- `readcard::list_elements` meets its contract: the loop keeps that the first k elements are listed. Assumes nothing.
use mathlib.Core.Path.{◌≡◌}
use Rattle.reads.specs.Card.{elements}
use Rattle.reads.proofs.Copied.{copied}
use Rattle.readcard.proofs.list_elements.Given as goal

abbrev pub invariant-loop-k : goal.invariant-loop-k
invariant-loop-k l = l.element-items ≡ copied (elements l.card.image.now) l.initial.element-items l.k

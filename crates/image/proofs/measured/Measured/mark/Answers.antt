-- `Measured::mark` meets its contract: the mark is that of the last sector's element. Assumes nothing.
use mathlib.Core.Path.{◌∙◌}
use Rattle.image.proofs.measured.Measured.mark.Goals as goal

pub returns : goal.returns
returns c = c.mark_of.ensures ∙ rw (c.args.self.now.shaped.sectors_is, c.element.ensures)

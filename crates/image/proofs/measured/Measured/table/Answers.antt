-- `Measured::table` gives a table that lies within the image. Assumes nothing.
use Rattle.image.proofs.Shapes.{inside}
use Rattle.image.proofs.measured.Measured.table.Goals as goal

pub invariant_of-result : goal.invariant_of-result
invariant_of-result c = record { inside = inside c.args.self.now.shaped }

-- `Headed::size` meets its contract: the shell record stands in the bytes from byte 4 on. Assumes nothing.
use lib.ListN.{drop}
use Rattle.bits.proofs.Laws.{field_lt}
use Rattle.fields.specs.Lists as lists
use Rattle.fields.specs.Lists.{nth}
use Rattle.image.proofs.Shapes.{rest-is}
use Rattle.verdict.proofs.measure.Headed.size.Goals as goal

pub returns : goal.returns
returns c =
    let a = c.args in
    let p = nth lists.shell a.i in
    let v = rw (rest-is a.self.now.image.now 4) at c.value.ensures in
    (v, rw v (field_lt (drop 4 a.self.now.image.now) p.0 p.1))

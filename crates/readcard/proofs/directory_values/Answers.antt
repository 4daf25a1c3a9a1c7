-- `readcard::directory_values` meets its contract: the two lists are read one behind the other. Assumes nothing.
use Rattle.fields.specs.Fields.{fields}
use Rattle.image.proofs.Places.{from_is}
use Rattle.readcard.proofs.directory_values.Goals as goal

pub returns : goal.returns
unfolding fields
returns c =
    let a = c.args in
    rw (c.read-2.ensures, c.read.ensures, from_is a.image.now a.first, from_is a.image.now a.last)

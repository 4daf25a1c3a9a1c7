-- `writes::is_kind` meets its contract: TYP is the entry's and the revision the header's. Assumes nothing.
use Rattle.image.specs.Product.{product_at}
use Rattle.writes.proofs.is_kind.Goals as goal

pub returns : goal.returns
unfolding product_at
returns c = rw (c.entry_field-t.ensures, c.header_field-f.ensures)

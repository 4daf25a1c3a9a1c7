-- `Product::entry_field` asks for an entry that is there. Assumes nothing.
use native.Mathlib.Omega.{arith}
use Rattle.image.proofs.Products.{there}
use Rattle.image.proofs.product.Product.entry_field.Goals as goal

pub entry_field-requires : goal.entry_field-requires
entry_field-requires c =
    let v = (there c.args.self.now).is-product in
    (omega (arith, v.low), omega (arith, v.high, c.args.self.now.card.shaped.entries-is), omega (arith, c.requires))

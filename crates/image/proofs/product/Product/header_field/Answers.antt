-- `Product::header_field` asks for a product. Assumes nothing.
use Rattle.image.proofs.Products.{there}
use Rattle.image.proofs.product.Product.header_field.Goals as goal

pub header_field-requires : goal.header_field-requires
header_field-requires c = record { present = there c.args.self.now; i_bound = c.requires }

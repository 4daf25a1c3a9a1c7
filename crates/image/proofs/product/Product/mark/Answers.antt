-- `Product::mark` meets its contract: the element of the chain's last sector has its mark. Assumes nothing.
use mathlib.Core.Path.{◌∙◌}
use Rattle.image.proofs.Products.{found}
use Rattle.image.proofs.product.Product.mark.Goals as goal

pub mark-requires : goal.mark-requires
mark-requires c = (found c.args.self.now).sector

pub returns : goal.returns
returns c = c.mark.ensures ∙ (found c.args.self.now).mark-is

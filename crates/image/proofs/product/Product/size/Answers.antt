-- `Product::size` meets its contract: the sectors of its chain, each of the same size. Assumes nothing.
use native.Mathlib.Omega.{arith}
use Rattle.image.proofs.Products.{sized, sized_in}
use Rattle.image.proofs.product.Product.size.Goals as goal

pub overflow_mul-result : goal.overflow_mul-result
overflow_mul-result c =
    let p = c.args.self.now in
    let b = p.card.shaped.in_bounds in
    omega (arith, sized_in p)

pub returns : goal.returns
returns c = sized c.args.self.now

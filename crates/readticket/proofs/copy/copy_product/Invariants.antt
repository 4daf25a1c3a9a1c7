-- `copy::copy_product` meets its contract: the loop keeps that the first k sectors are copied and that i is the next one. Assumes nothing.
use mathlib.Core.Path.{◌≡◌}
use Prim.Native.Nat.{◌≤◌, ◌<◌}
use lib.ListN.{get_or}
use Rattle.image.specs.Image.{sectors}
use Rattle.readticket.proofs.Sectors.{partly}
use Rattle.readticket.proofs.copy.copy_product.Given as goal

abbrev pub invariant-loop-k : goal.invariant-loop-k
invariant-loop-k l =
    let p = l.found in
    let c = p.card.image.now in
    (l.k ≤ p.chain.count) × (l.buffer ≡ partly c p.card.shape p.entry l.initial.buffer l.k) × (l.k < p.chain.count → l.i ≡ get_or (sectors c p.entry) l.k 0)

-- `Pair::same_entry` meets its contract: the forty bits, then whether there is a product, then the chains walked together. Assumes nothing.
use Rattle.std.proofs.Common.{ap, ◌∙◌}
use mathlib.Core.Bool.{not}
use Rattle.touched.proofs.Pairs.{both, other-bits, empty-same, product-same}
use Rattle.touched.proofs.pair.Pair.same_entry.Goals as goal

pub returns-then-get : goal.returns-then-get
returns-then-get c =
    let p = c.args.self.now in
    other-bits (both p) c.args.j c.entry_at-at.ensures _ _ c.get.ensures c.get-2.ensures c.if-get.true

pub returns-then-not-present : goal.returns-then-not-present
returns-then-not-present c =
    let p = c.args.self.now in
    ap not c.if-not-present.true
    ∙ empty-same (both p) c.args.j c.entry_at-at.ensures _ _ c.get.ensures c.get-2.ensures _ c.if-get.false c.present.ensures c.if-not-present.true

pub returns-else-not-present : goal.returns-else-not-present
returns-else-not-present c =
    let p = c.args.self.now in
    product-same (both p) c.args.j c.entry_at-at.ensures _ _ c.get.ensures c.get-2.ensures _ _ c.requires c.if-get.false c.present.ensures c.if-not-present.false c.same_chain.ensures

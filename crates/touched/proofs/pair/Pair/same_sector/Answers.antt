-- `Pair::same_sector` meets its contract: sectors and elements stand at the same places in both. Assumes nothing.
use Rattle.std.proofs.Common.{◌≡◌, ◌∙◌, arith}
use Rattle.image.specs.Image.{element}
use Rattle.touched.proofs.Pairs.{both, sector-in, bytes-same, element_of}
use Rattle.touched.proofs.pair.Pair.same_sector.Goals as goal

pub slice_bounds-eq-end : goal.slice_bounds-eq-end
slice_bounds-eq-end c =
    let p = c.args.self.now in
    let s = sector-in (both p) c.args.i c.sector_at-from.result c.requires c.sector_at-from.ensures in
    omega arith

pub slice_bounds-eq-end-2 : goal.slice_bounds-eq-end-2
slice_bounds-eq-end-2 c =
    let p = c.args.self.now in
    let s = sector-in (both p) c.args.i c.sector_at-from.result c.requires c.sector_at-from.ensures in
    omega arith

pub returns-then-eq : goal.returns-then-eq
returns-then-eq c =
    let p = c.args.self.now in
    let b = both p in
    let t = c.table-before.ensures in
    let u : c.element.result ≡ element p.before.image.now c.args.i = c.element.ensures ∙ rw (t.bytes, t.place) (element_of b.shape c.args.i) in
    let v : c.element-then-eq.result ≡ element p.after.now c.args.i = c.element-then-eq.ensures ∙ rw t.place (element_of b.shape_after c.args.i) in
    rw (← bytes-same b c.args.i c.sector_at-from.result c.sector_at-from.ensures c.eq.ensures, c.if-eq.true, u, v)

pub returns-else-eq : goal.returns-else-eq
returns-else-eq c =
    let p = c.args.self.now in
    rw (← bytes-same (both p) c.args.i c.sector_at-from.result c.sector_at-from.ensures c.eq.ensures, c.if-eq.false)

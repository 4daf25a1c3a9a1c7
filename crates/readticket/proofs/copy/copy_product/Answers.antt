-- `copy::copy_product` meets its contract: the loop keeps that the first k sectors are copied and that i is the next one. Assumes nothing.
use mathlib.Core.Path.{◌≡◌, sym, ap, ◌∙◌}
use native.Mathlib.Nat.{mul-le-mul_right}
use native.Mathlib.Omega.{arith}
use Prim.Native.Nat.{◌*◌}
use lib.ListN.{length, get_or}
use Rattle.chains.specs.Chain.{Sector}
use Rattle.image.specs.Image.{S, element, sectors}
use Rattle.image.proofs.Products.{there}
use Rattle.reads.proofs.Known.{there-start, there-at, there-next}
use Rattle.readticket.proofs.Sectors.{partly_none, partly-length, partly_more, partly-all, Turn, turn, parts_same}
use Rattle.readticket.proofs.copy.copy_product.Goals.{After-copy, At-loop-k, In-loop-k}
use Rattle.readticket.proofs.copy.copy_product.Goals as goal

-- the buffer is as long as it was
long : (c : At-loop-k) → length c.loop-k.buffer ≡ length c.args.buffer.now
long c =
    let p = c.args.found.now in
    let n = p.count_is in
    ap length c.loop-k.invariant.1
    ∙ partly-length p.card.shaped (there p) _ c.loop-k.k (omega arith) (omega (arith, mul-le-mul_right {n = p.chain.count} p.card.shape.size c.loop-k.invariant.0))

-- i is the next sector of the chain
is-next : (c : In-loop-k) → c.loop-k.i ≡ get_or (sectors c.args.found.now.card.image.now c.args.found.now.entry) c.loop-k.k 0
is-next c = c.loop-k.invariant.2 (omega arith)

here : (c : In-loop-k) → Sector (S c.args.found.now.card.image.now) c.loop-k.i
here c =
    let p = c.args.found.now in
    let n = p.count_is in
    rw (is-next c) (there-at (there p) c.loop-k.k (omega arith))

-- the places of this turn
place : (c : In-loop-k) → Turn c.args.found.now.card.image.now c.args.found.now.card.shape c.args.found.now.chain.count c.loop-k.k c.loop-k.i
place c = let p = c.args.found.now in turn p.card.shaped (there p) p.count_is (omega arith) (here c)

pub loop-k-init : goal.loop-k-init
loop-k-init c =
    let p = c.args.found.now in
    (omega arith, partly_none p.card.image.now p.card.shape p.entry c.args.buffer.now, λ h. sym (there-start (there p)))

pub sector_at-from-requires : goal.sector_at-from-requires
sector_at-from-requires c = let t = place (goal.at.sector_at-from-requires c).In-loop-k in omega arith

pub overflow_add-from_end : goal.overflow_add-from_end
overflow_add-from_end c = let t = place (goal.at.overflow_add-from_end c).In-loop-k in omega (arith, c.sector_at-from.ensures)

pub overflow_mul-to : goal.overflow_mul-to
overflow_mul-to c = let t = place (goal.at.overflow_mul-to c).In-loop-k in omega arith

pub overflow_add-to_end : goal.overflow_add-to_end
overflow_add-to_end c = let t = place (goal.at.overflow_add-to_end c).In-loop-k in omega arith

pub slice_bounds-copy-end : goal.slice_bounds-copy-end
slice_bounds-copy-end c = let t = place (goal.at.slice_bounds-copy-end c).In-loop-k in omega (arith, c.sector_at-from.ensures)

pub copy-requires : goal.copy-requires
copy-requires c =
    let at = goal.at.copy-requires c in
    let t = place at.In-loop-k in
    let r = c.sector_at-from in
    let card = c.args.found.now.card in
    parts_same card.image.now c.loop-k.buffer r.result (c.loop-k.k * card.shape.size) card.shape.size (omega (arith, r.ensures)) (omega (arith, long at.At-loop-k, c.requires)) t.least

pub next-i-requires : goal.next-i-requires
next-i-requires c = here (goal.at.next-i-requires c).In-loop-k

pub loop-k-preserved : goal.loop-k-preserved
loop-k-preserved c =
    let p = c.args.found.now in
    let n = p.count_is in
    let l = c.loop-k in
    let i = is-next (goal.at.loop-k-preserved c).In-loop-k in (
      omega arith,
      rw (c.copy.ensures, l.invariant.1, c.sector_at-from.ensures) (partly_more p.card.shaped (there p) c.args.buffer.now l.k l.i (omega arith) i),
      λ h. c.next-i.ensures ∙ ap (element p.card.image.now) i ∙ there-next (there p) l.k (omega arith),
    )

pub shape_of-buffer : goal.shape_of-buffer
shape_of-buffer c = long (goal.at.shape_of-buffer c).At-loop-k

pub returns : goal.returns
returns c =
    let p = c.args.found.now in
    let n = p.count_is in
    c.loop-k.invariant.1 ∙ partly-all p.card.shaped (there p) _ c.loop-k.k (omega arith)

-- `entry::list_sectors` meets its contract: the loop keeps that the sectors passed are listed and that i is the next one. Assumes nothing.
use mathlib.Core.Path.{◌≡◌, refl, sym, ap, ◌∙◌}
use native.Mathlib.Omega.{arith}
use lib.ListN.{length, get_or, take}
use lib.Seq.{length-take-le}
use Rattle.chains.specs.Chain.{Sector}
use Rattle.image.specs.Image.{S, element, sectors}
use Rattle.image.proofs.Places.{element-asks, element-read}
use Rattle.image.proofs.Products.{there}
use Rattle.reads.proofs.Copied.{copy_more, copy-whole}
use Rattle.reads.proofs.Known.{there-start, there-at, there-next}
use Rattle.readcard.proofs.entry.list_sectors.Goals.{At-loop-sector, In-loop-sector}
use Rattle.readcard.proofs.entry.list_sectors.Goals as goal

-- the list is as long as the chain
long : (c : At-loop-sector) → length (take c.args.found.now.chain.count c.args.out.now) ≡ length (sectors c.args.found.now.card.image.now c.args.found.now.entry)
long c = length-take-le _ _ c.requires ∙ c.args.found.now.count_is

-- i is a sector of the chain
here : (c : In-loop-sector) → Sector (S c.args.found.now.card.image.now) c.loop-sector.i
here c =
    let p = c.args.found.now in
    let n = length-take-le p.chain.count c.args.out.now c.requires in
    let k = p.count_is in
    let l = c.loop-sector in
    rw (l.invariant.1 (omega arith)) (there-at (there p) l.sector-index (omega arith))

pub loop-sector-init : goal.loop-sector-init
loop-sector-init c = (refl, λ h. sym (there-start (there c.args.found.now)))

pub overflow_cast-sector : goal.overflow_cast-sector
overflow_cast-sector c =
    let b = c.args.found.now.card.shaped.in_bounds in
    omega (arith, (here (goal.at.overflow_cast-sector c).In-loop-sector).high)

pub element-i-requires : goal.element-i-requires
element-i-requires c =
    record { sector = (element-asks c.args.found.now.card.shaped c.table-t.ensures.place _ (here (goal.at.element-i-requires c).In-loop-sector)).1 }

pub loop-sector-preserved : goal.loop-sector-preserved
loop-sector-preserved c =
    let l = c.loop-sector in
    let p = c.args.found.now in
    let n = length-take-le p.chain.count c.args.out.now c.requires in
    let k = p.count_is in
    let i : l.i ≡ get_or (sectors p.card.image.now p.entry) l.sector-index 0 = l.invariant.1 (omega arith) in
    let e = (element-read p.card.shaped c.table-t.ensures.place _ _ (rw c.table-t.ensures.bytes at c.element-i.ensures)).0 in
    (rw (l.invariant.0, i) (copy_more (sectors p.card.image.now p.entry) _ l.sector-index (omega arith) (omega arith)), λ h. e ∙ ap (element p.card.image.now) i ∙ there-next (there p) l.sector-index (omega arith))

pub returns : goal.returns
returns c =
    let l = c.loop-sector in
    let p = c.args.found.now in
    let n = long (goal.at.returns c).At-loop-sector in
    rw (l.invariant.0 ∙ copy-whole _ _ l.sector-index (omega arith) n, p.count_is)

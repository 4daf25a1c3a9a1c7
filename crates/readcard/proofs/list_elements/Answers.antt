-- `readcard::list_elements` meets its contract: the loop keeps that the first k elements are listed. Assumes nothing.
use mathlib.Core.Path.{◌≡◌, refl, sym, ap, ◌∙◌}
use Prim.Native.Nat.{ℕ, ◌-◌}
use native.Mathlib.Omega.{arith}
use lib.ListN.{length, get_or, take}
use lib.Seq.{length-take-le}
use Rattle.image.specs.Image.{S, element}
use Rattle.image.proofs.Places.{element-asks, element-read}
use Rattle.reads.specs.Card.{elements}
use Rattle.reads.proofs.Counted.{length-counted, get_or-counted}
use Rattle.reads.proofs.Copied.{copy_more, copy-whole}
use Rattle.readcard.proofs.list_elements.Goals.{At-loop-k}
use Rattle.readcard.proofs.list_elements.Goals as goal

-- there are as many elements as are listed
many : (c : At-loop-k) → c.args.card.now.shape.sectors - 3 ≡ length (elements c.args.card.now.image.now)
many c = ap (λ (x : ℕ). x - 3) c.args.card.now.shaped.sectors_is ∙ sym (length-counted (element c.args.card.now.image.now) 1 (S c.args.card.now.image.now - 3))

long : (c : At-loop-k) → length (take (c.args.card.now.shape.sectors - 3) c.args.out.now) ≡ length (elements c.args.card.now.image.now)
long c = length-take-le _ _ c.requires ∙ many c

pub loop-k-init : goal.loop-k-init
loop-k-init c = refl

pub element-requires : goal.element-requires
element-requires c =
    let s = c.args.card.now.shaped in
    let n = length-take-le _ _ c.requires in
    record { sector = (element-asks c.args.card.now.shaped c.table-t.ensures.place _ (record { low = omega arith; high = omega arith })).1 }

pub overflow_cast-element : goal.overflow_cast-element
overflow_cast-element c =
    omega (arith, (element-read c.args.card.now.shaped c.table-t.ensures.place _ _ (rw c.table-t.ensures.bytes at c.element.ensures)).1)

pub loop-k-preserved : goal.loop-k-preserved
loop-k-preserved c =
    let l = c.loop-k in
    let m = c.args.card.now.image.now in
    let s = c.args.card.now.shaped in
    let n = long (goal.at.loop-k-preserved c).At-loop-k in
    let k = many (goal.at.loop-k-preserved c).At-loop-k in
    let r = (element-read c.args.card.now.shaped c.table-t.ensures.place _ _ (rw c.table-t.ensures.bytes at c.element.ensures)).0 in
    let e : c.element.result ≡ get_or (elements m) l.k 0 = r ∙ ap (element m) (omega arith) ∙ sym (get_or-counted (element m) 1 (S m - 3) l.k (omega arith)) in
    rw (l.invariant, e) (copy_more (elements m) _ l.k (omega arith) (omega arith))

pub returns : goal.returns
returns c =
    let at = (goal.at.returns c).At-loop-k in
    let n = long at in
    rw (c.loop-k.invariant ∙ copy-whole _ _ c.loop-k.k (omega arith) n, many at)

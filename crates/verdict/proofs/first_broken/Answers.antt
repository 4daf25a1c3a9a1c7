-- `verdict::first_broken` meets its contract: no entry before k has a broken chain, and each sector met has its owner. Assumes nothing.
use mathlib.Core.Path.{◌≡◌, refl, sym, ◌∙◌}
use mathlib.Core.Bool.{false, false≢true}
use Prim.Native.Nat.{◌+◌, ◌-◌}
use native.Mathlib.Omega.{arith}
use borrow.Author.Count.{below_more}
use borrow.Author.Rules.{rules}
use Rattle.rules.proofs.LowestLaws.{lowest-here, lowest-none, some-is}
use Rattle.chains.proofs.Owners.{owners-none, owners_skip}
use Rattle.image.specs.Image.{S, e#, element}
use Rattle.image.specs.Verdict.{broken_at}
use Rattle.image.proofs.Shapes.{follow-is}
use Rattle.image.proofs.Entries.{Owners, no_product, follow-broken, follow-sound}
use Rattle.verdict.proofs.first_broken.Goals.{then-present+in-Some, else-present}
use Rattle.verdict.proofs.first_broken.Goals as goal

pub loop-k-init : goal.loop-k-init
loop-k-init c =
    let m = c.args.card.now.image.now in
    (omega arith, omega arith, rw c.args.card.now.shaped.sectors_is (owners-none (element m) (S m)), λ a l b e. omega arith)

pub present-requires : goal.present-requires
present-requires c = omega arith

pub follow-requires : goal.follow-requires
follow-requires c =
    let s = c.args.card.now.shaped in
    record { sector = rw c.table.ensures.place (record { low = c.loop-k.invariant.0; high = omega (arith, s.in_bounds.e_top) }) }

pub returns-in_default : goal.returns-in_default
returns-in_default c =
    let l = c.loop-k in
    let m = c.args.card.now.image.now in
    let e = rw (c.table.ensures.bytes, c.table.ensures.place, follow-is c.args.card.now.shaped l.k l.left l.owner) at c.follow.ensures in
    some-is _ _ l.invariant.0 (lowest-here (e# m) (broken_at m) l.k l.invariant.0 (omega arith)
    (follow-broken m (search rules) (search rules) l.invariant.2 (sym c.present.ensures ∙ c.if-present.true) e (rw c.in_default.is refl))
    l.invariant.3)

pub loop-k-preserved : goal.loop-k-preserved
loop-k-preserved c =
    let l = c.loop-k in
    let m = c.args.card.now.image.now in
    let x = c.present.ensures in
    let r : Owners m (l.k + 1) c.if-present.left c.if-present.owner × (broken_at m l.k ≡ false) =
    elim c.if-present.branch [
      | then-present+in-Some w ↦
          let e = rw (w.table.ensures.bytes, w.table.ensures.place, follow-is c.args.card.now.shaped l.k l.left l.owner) at w.in-Some.ensures in
          let n = follow-sound m (search rules) (search rules) l.invariant.2 (sym x ∙ w.if-present.true) e (λ y. omega (arith, y)) in
          let q : c.if-present.left ≡ w.in-Some.after + 1 - 1 = omega (arith, w.left-is) in
          (rw (q, w.owner-is) n.1, n.0)
      | else-present w ↦ let n = no_product m l.k (search rules) (sym x ∙ w.if-present.false) in (rw (w.left-is, w.owner-is) (owners_skip l.invariant.2), n.0)
    ] in
    (omega arith, omega arith, r.0, below_more _ _ l.invariant.3 (λ a q. false≢true (sym r.1 ∙ q)))

pub returns : goal.returns
returns c =
    let l = c.loop-k in
    rw (← lowest-none (e# c.args.card.now.image.now) (broken_at c.args.card.now.image.now) (λ a h. l.invariant.3 a (omega arith))) refl

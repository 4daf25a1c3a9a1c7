-- `Table::follow` meets its contract: at each turn the walk from here with what is left is the walk from the start. Assumes nothing.
use Rattle.std.proofs.Common.{sym, ◌∙◌}
use Rattle.chains.proofs.Links.{next-named}
use Rattle.chains.proofs.Unfold.{follow-none, follow-bad, follow-end, follow-on, follow-back, follow-joins}
use Rattle.chains.proofs.packed.Table.follow.Invariants.{elements}
use Rattle.chains.proofs.packed.Table.follow.Goals as goal

pub returns-then-n-eq0 : goal.returns-then-n-eq0
returns-then-n-eq0 c =
    let t = c.args.self.now in
    let l = c.loop-owner in
    follow-none (elements t) t.place.sectors c.args.k l.n l.owner l.i c.loop-owner-test.true c.if-n-eq0.true ∙ l.invariant.1

pub returns-in-Broken : goal.returns-in-Broken
returns-in-Broken c =
    let t = c.args.self.now in
    let l = c.loop-owner in
    follow-bad (elements t) t.place.sectors c.args.k l.n l.owner l.i c.loop-owner-test.true c.element.result c.if-n-eq0.false c.element.ensures (sym c.in-Broken.is ∙ c.of.ensures) ∙ l.invariant.1

pub returns-in-Last : goal.returns-in-Last
returns-in-Last c =
    let t = c.args.self.now in
    let l = c.loop-owner in
    follow-end (elements t) t.place.sectors c.args.k l.n l.owner l.i c.loop-owner-test.true c.element.result c.if-n-eq0.false c.element.ensures (sym c.in-Last.is ∙ c.of.ensures) ∙ l.invariant.1

pub loop-owner-preserved : goal.loop-owner-preserved
loop-owner-preserved c =
    let t = c.args.self.now in
    let l = c.loop-owner in
    let e = sym c.in-Next.is ∙ c.of.ensures in (
      (next-named t.place.sectors l.i c.element.result e).1.sector,
      follow-on (elements t) t.place.sectors c.args.k l.n l.owner l.i c.loop-owner-test.true c.element.result c.if-n-eq0.false c.element.ensures e ∙ l.invariant.1,
    )

pub returns-then-owner-i : goal.returns-then-owner-i
returns-then-owner-i c =
    let t = c.args.self.now in
    let l = c.loop-owner in
    follow-back (elements t) t.place.sectors c.args.k l.n l.owner l.i c.loop-owner-test.false c.if-owner-i.true ∙ l.invariant.1

pub returns : goal.returns
returns c =
    let t = c.args.self.now in
    let l = c.loop-owner in
    follow-joins (elements t) t.place.sectors c.args.k l.n l.owner l.i c.loop-owner-test.false c.if-owner-i.false ∙ l.invariant.1

-- `Pair::same_chain` meets its contract: what is left to compare at sector i is what there was to compare at the first. Assumes nothing.
use Rattle.std.proofs.Common.{◌≡◌, ◌+◌, ◌-◌, sym, ◌∙◌, arith}
use Rattle.touched.proofs.Pairs.{both, chain-none, chain-ends, chain-differs, chain-goes, on-sector}
use Rattle.touched.proofs.pair.Pair.same_chain.Goals as goal

pub returns-then-not-same_sector : goal.returns-then-not-same_sector
returns-then-not-same_sector c =
    let p = c.args.self.now in
    let l = c.loop-passed in
    chain-differs (both p) l.i (p.before.shape.sectors - 3 - l._passed) (omega arith) (sym c.if-not-same_sector.true ∙ c.same_sector.ensures) ∙ l.invariant.1

pub returns-in-None : goal.returns-in-None
returns-in-None c =
    let p = c.args.self.now in
    let l = c.loop-passed in
    chain-ends (both p) l.i (p.before.shape.sectors - 3 - l._passed) (omega arith) (sym c.if-not-same_sector.false ∙ c.same_sector.ensures) (sym c.in-None.is ∙ c.next.ensures) ∙ l.invariant.1

pub loop-passed-preserved : goal.loop-passed-preserved
loop-passed-preserved c =
    let p = c.args.self.now in
    let b = both p in
    let l = c.loop-passed in
    let n = p.before.shape.sectors - 3 in
    let x = sym c.in-Some.is ∙ c.next.ensures in
    let m : n - (l._passed + 1) ≡ n - l._passed - 1 = omega arith in (
      on-sector b l.i c.in-Some.x x,
      rw m (chain-goes b l.i (n - l._passed) c.in-Some.x (omega arith) (sym c.if-not-same_sector.false ∙ c.same_sector.ensures) x ∙ l.invariant.1),
    )

pub returns : goal.returns
returns c =
    let p = c.args.self.now in
    let l = c.loop-passed in
    chain-none (both p) l.i (p.before.shape.sectors - 3 - l._passed) (omega arith) ∙ l.invariant.1

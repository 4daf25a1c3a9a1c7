-- `measure::zeros` meets its contract: the bytes passed carry 0, and some that do not make the whole other than 0. Assumes nothing.
use mathlib.Core.Path.{◌≡◌, sym, ◌∙◌}
use mathlib.Core.Logic.{◌≢◌}
use Prim.Native.Nat.{◌+◌, ◌*◌}
use native.Mathlib.Omega.{arith}
use borrow.Author.Tests.{eq-eqb, ne_eqb}
use Rattle.image.proofs.ZeroBytes.{zero_more, zero-not}
use Rattle.bits.specs.Bits.{field}
use Rattle.verdict.proofs.measure.zeros.Goals as goal

pub returns-then-load-ne0 : goal.returns-then-load-ne0
returns-then-load-ne0 c =
    let a = c.args in
    let e : a.from + 0 ≡ a.from = omega arith in
    let q : field a.image.now (8 * (a.from + 0)) (8 * 2) ≢ 0 = λ z. c.if-load-ne0.true (c.load.ensures ∙ (rw e at z)) in
    sym (ne_eqb _ _ (zero-not a.image.now a.from 0 2 a.count (omega arith) q))

pub returns-then-load-ne0-2 : goal.returns-then-load-ne0-2
returns-then-load-ne0-2 c =
    let l = c.loop-k in
    let a = c.args in
    let e : a.from + (2 + 4 * l.k) ≡ a.from + 2 + 4 * l.k = omega arith in
    let q : field a.image.now (8 * (a.from + (2 + 4 * l.k))) (8 * 4) ≢ 0 = λ z. c.if-load-ne0-2.true (c.load-in-loop-k.ensures ∙ (rw e at z)) in
    sym (ne_eqb _ _ (zero-not a.image.now a.from (2 + 4 * l.k) 4 a.count (omega arith) q))

pub loop-k-preserved : goal.loop-k-preserved
loop-k-preserved c =
    let l = c.loop-k in
    let a = c.args in
    let e : a.from + (2 + 4 * l.k) ≡ a.from + 2 + 4 * l.k = omega arith in
    let n : 2 + 4 * l.k + 4 ≡ 2 + 4 * (l.k + 1) = omega arith in
    rw (← n) (zero_more a.image.now a.from (2 + 4 * l.k) 4 l.invariant (rw e (sym c.load-in-loop-k.ensures ∙ c.if-load-ne0-2.false)))

pub returns : goal.returns
returns c =
    let l = c.loop-k in
    let a = c.args in
    let e : 2 + 4 * l.k ≡ a.count = omega arith in
    sym (eq-eqb (field a.image.now (8 * a.from) (8 * a.count)) 0 (rw e at l.invariant))

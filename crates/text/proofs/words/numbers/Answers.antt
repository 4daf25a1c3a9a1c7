-- `words::numbers`: each turn reads a word.
use mathlib.Core.Path.{sym, ◌∙◌}
use native.Mathlib.Omega.{arith}
use Rattle.text.proofs.Numbered.{begun, full, strange, one_more, whole}
use Rattle.text.proofs.words.numbers.Goals as goal

pub loop-at-init : goal.loop-at-init
loop-at-init c = begun _ _ _ c.first-at.ensures.0

pub returns-then-count-list-clause-read : goal.returns-then-count-list-clause-read
returns-then-count-list-clause-read c = full _ _ _ _ _ c.loop-at.invariant (c.if-count-list.true ∙ c.loop-at.invariant.room) c.loop-at-test.true

pub loop-at-preserved : goal.loop-at-preserved
loop-at-preserved c =
    let k = c.loop-at in
    one_more _ _ _ _ _ k.invariant _ _ c.end-end.ensures.0 c.loop-at-test.true (λ e. c.if-count-list.false (e ∙ sym k.invariant.room)) (sym c.decimal.ensures ∙ c.in_ok-list.was)

pub returns-clause-read : goal.returns-clause-read
returns-clause-read c = whole _ _ _ _ _ c.loop-at.invariant (omega arith)

pub returns-in_err-list-clause-read : goal.returns-in_err-list-clause-read
returns-in_err-list-clause-read c = rw c.from_residual.ensures (strange _ _ _ _ _ c.loop-at.invariant _ c.end-end.ensures.0 c.loop-at-test.true (sym c.in_err-list.ensures))

pub returns-clause-within : goal.returns-clause-within
returns-clause-within c = let k = c.loop-at.invariant in let n = k.counted in let e = k.room in omega arith

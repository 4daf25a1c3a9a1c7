-- `measure::judged` meets its contract: the parts of the rules are judged one after the other. Assumes nothing.
use mathlib.Core.Path.{refl}
use native.Mathlib.Omega.{arith}
use Rattle.rules.proofs.ReasonLaws.{number-ne0}
use Rattle.image.proofs.Stops.{at_head, at_size, at-content, head-bounds}
use Rattle.verdict.proofs.measure.judged.Goals as goal

pub returns-in_err-head : goal.returns-in_err-head
returns-in_err-head c =
    let y = c.in_err-head.field-0.0 in
    let q = at_head c.args.image.now c.in_err-head.ensures.number (number-ne0 y) in
    grind arith

pub returns-in_err-judge_sizes : goal.returns-in_err-judge_sizes
returns-in_err-judge_sizes c =
    let y = c.in_err-judge_sizes.field-0.0 in
    let q = at_size c.args.image.now c.in_ok-head.ensures.number refl (rw c.in_ok-head.ensures.same at c.in_err-judge_sizes.ensures) (number-ne0 y) in
    grind arith

pub invariant_of-measured : goal.invariant_of-measured
invariant_of-measured c =
    record { bounds = head-bounds c.args.image.now c.in_ok-head.ensures.number refl (rw c.in_ok-head.ensures.same at c.in_ok-judge_sizes.ensures) refl }

pub returns : goal.returns
returns c =
    at-content c.args.image.now c.in_ok-head.ensures.number refl (rw c.in_ok-head.ensures.same at c.in_ok-judge_sizes.ensures) refl (rw c.measured.ensures at c.content.ensures)

-- `measure::content` meets its contract: the padding is whole blocks, but for two bytes. Assumes nothing.
use native.Mathlib.Omega.{arith}
use Rattle.std.proofs.lemmas.Bool.Decides.{nat_tests}
use Rattle.rules.specs.First.{first}
use Rattle.verdict.proofs.Short.{pad_bytes, whole_blocks}
use Rattle.verdict.proofs.measure.content.Goals as goal

pub zeros-requires : goal.zeros-requires
zeros-requires c =
    let g = c.args.card.now in
    let s = g.shaped in
    let w = whole_blocks g.image.now in
    (omega arith, omega arith)

pub returns-in_err-judge_isrn : goal.returns-in_err-judge_isrn
unfolding first
returns-in_err-judge_isrn c = grind (arith, nat_tests, pad_bytes, c.in_err-judge_isrn.ensures)

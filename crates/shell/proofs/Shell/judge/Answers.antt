-- `shell::Shell::judge` meets its contract: values that fit their places have an ISRN in words. Assumes nothing.
use mathlib.Core.Path.{◌∙◌}
use native.Mathlib.Omega.{arith}
use Rattle.std.proofs.lemmas.Bool.Decides.{nat_tests}
use Rattle.rules.specs.First.{first}
use Rattle.shell.specs.Encode.{encode_number}
use Rattle.shell.proofs.Shell.judge.Goals.{Else-not-all_fit}
use Rattle.shell.proofs.Shell.judge.Goals as goal

pub returns-in_err-judge_isrn : goal.returns-in_err-judge_isrn
unfolding encode_number first
returns-in_err-judge_isrn c = grind (arith, nat_tests, c.in_err-judge_isrn.ensures ∙ c.isrn-high.ensures.1)

-- `values::are_bytes` meets its contract: what is not listed takes any few bytes, and a kind those of its fields.
-- Assumes nothing.
use mathlib.Core.Path.{sym, ◌∙◌}
use Rattle.console.proofs.Suited.{bytes-other, bytes-kind, headed}
use Rattle.console.proofs.values.are_bytes.Goals as goal

pub returns-in_default : goal.returns-in_default
returns-in_default c = bytes-other _ _ (sym c.check_form.ensures ∙ c.in_default.is) c.args.all

pub overflow_sub-result : goal.overflow_sub-result
overflow_sub-result c = headed c.in-Some.kind _ c.rest.ensures

pub returns : goal.returns
returns c = bytes-kind _ _ _ (sym c.check_form.ensures ∙ c.in-Some.is) _ c.args.all c.rest.ensures

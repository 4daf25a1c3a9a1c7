-- `values::count` meets its contract: what is not listed has no values, and a kind those of its list.
-- Assumes nothing.
use mathlib.Core.Path.{sym, ◌∙◌}
use Rattle.console.proofs.Suited.{no-values, all-values}
use Rattle.console.proofs.values.count.Goals as goal

pub returns-in_default : goal.returns-in_default
returns-in_default c = no-values _ _ (sym c.check_form.ensures ∙ c.in_default.is)

pub returns : goal.returns
returns c = all-values _ _ _ (sym c.check_form.ensures ∙ c.in-Some.is) _ c.count.ensures

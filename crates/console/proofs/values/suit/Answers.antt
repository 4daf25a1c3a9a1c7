-- `values::suit`: what is not listed takes any few values, and a kind its own number.
use mathlib.Core.Path.{sym, ◌∙◌}
use native.Mathlib.Omega.{arith}
use Rattle.console.proofs.Suited.{suits-none, suits-other, suits-kind, few}
use Rattle.console.proofs.values.suit.Goals as goal

pub returns-in_default : goal.returns-in_default
returns-in_default c = let a = c.args in rw c.in_default.is (suits-none a.typ a.revision a.before c.requires)

pub returns-in_default-check_form : goal.returns-in_default-check_form
returns-in_default-check_form c = let a = c.args in rw c.in-Some.is (suits-other _ _ (sym c.check_form.ensures ∙ c.in_default-check_form.is) a.before _)

pub overflow_add-result-2 : goal.overflow_add-result-2
overflow_add-result-2 c = omega (arith, few c.in-Some-check_form.kind _ c.count.ensures)

pub returns : goal.returns
returns c = let a = c.args in rw c.in-Some.is (suits-kind _ _ _ (sym c.check_form.ensures ∙ c.in-Some-check_form.is) a.before _ _ c.count.ensures)

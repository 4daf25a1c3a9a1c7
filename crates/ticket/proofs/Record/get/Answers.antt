-- `Record::get` meets its contract: its tests are the rules'. Assumes nothing.
use mathlib.Core.Path.{◌≡◌, sym, ap, ◌∙◌}
use borrow.Author.Rules.{rules}
use Rattle.rules.specs.declared.Reason.TheVariants.{OtherKind}
use Rattle.std.specs.Prelude.{Err}
use Rattle.std.specs.Result.{result_ok}
use Rattle.ticket.specs.Coded.{valued}
use Rattle.ticket.proofs.Steps.{value-other, value-refused, value-done}
use Rattle.ticket.proofs.Record.get.Goals as goal

pub returns-in_err-kind : goal.returns-in_err-kind
returns-in_err-kind c =
    let e : c.from_residual.result ≡ Err OtherKind = search rules in
    ap valued e ∙ value-other _ _ (sym c.check_form.ensures ∙ c.ok_or.ensures.ok_part ∙ ap result_ok c.in_err-kind.was)

pub returns-then-is_field : goal.returns-then-is_field
returns-then-is_field c =
    value-done _ _ (sym c.check_form.ensures ∙ c.ok_or.ensures.ok_part ∙ ap result_ok c.in_ok-kind.was) (sym c.is_field.ensures ∙ c.if-is_field.true)

pub returns-else-is_field : goal.returns-else-is_field
returns-else-is_field c =
    value-refused _ _ (sym c.check_form.ensures ∙ c.ok_or.ensures.ok_part ∙ ap result_ok c.in_ok-kind.was) (sym c.is_field.ensures ∙ c.if-is_field.false)

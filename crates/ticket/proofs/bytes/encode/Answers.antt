-- `bytes::encode` meets its contract: a record without a bad value is stored in zeros, and the header left out. Assumes nothing.
use mathlib.Core.Path.{◌≡◌, refl, sym, ap, ◌∙◌}
use borrow.Author.Rules.{rules}
use Rattle.std.specs.Prelude.{Err}
use Rattle.std.specs.Result.{result_ok}
use Rattle.rules.specs.Reasons.{number, said}
use Rattle.rules.specs.declared.Reason.TheVariants.{OtherKind}
use Rattle.ticket.specs.Coded.{encoding}
use Rattle.rules.proofs.ReasonLaws.{number-ne0}
use Rattle.ticket.proofs.Round.{encode-other, encode-refused, encode-done}
use Rattle.ticket.proofs.bytes.encode.Goals as goal

pub returns-in_err-kind : goal.returns-in_err-kind
returns-in_err-kind c =
    let e : c.from_residual.result ≡ Err OtherKind = search rules in
    ap encoding e ∙ encode-other _ (sym c.check_form.ensures ∙ c.ok_or.ensures.ok_part ∙ ap result_ok c.in_err-kind.was)

pub returns-in_err-lay : goal.returns-in_err-lay
returns-in_err-lay c =
    let t = c.args.t in
    let r = c.in_err-lay.field-0.0 in
    let e : c.from_residual-in_err-lay.result ≡ Err r = search rules in
    let k = sym c.check_form.ensures ∙ c.ok_or.ensures.ok_part ∙ ap result_ok c.in_ok-kind.was in
    ap encoding e ∙ encode-refused t k (number r) (ap said (sym c.in_err-lay.was) ∙ c.lay.ensures.value) (number-ne0 r)

pub returns : goal.returns
returns c =
    let t = c.args.t in
    let k = sym c.check_form.ensures ∙ c.ok_or.ensures.ok_part ∙ ap result_ok c.in_ok-kind.was in
    encode-done t k (ap said (sym c.in_ok-lay.was) ∙ c.lay.ensures.value) refl c.lay.ensures.s_after c.without_header.ensures c.rest.ensures

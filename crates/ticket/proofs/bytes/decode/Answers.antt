-- `bytes::decode` meets its contract: the kind's list is read from the bytes, which follow two of a header. Assumes nothing.
use mathlib.Core.Path.{◌≡◌, sym, ap, ◌∙◌}
use borrow.Author.Rules.{rules}
use Rattle.std.specs.Prelude.{Err}
use Rattle.std.specs.Result.{result_ok}
use Rattle.rules.specs.declared.Reason.TheVariants.{OtherKind}
use Rattle.ticket.specs.declared.kinds.Fields.{Fields}
use Rattle.ticket.specs.Coded.{decoding}
use Rattle.ticket.proofs.Round.{decode-other, decode-done}
use Rattle.ticket.proofs.bytes.decode.Goals as goal

pub returns-in_err-kind : goal.returns-in_err-kind
returns-in_err-kind c =
    let a = c.args in
    let e : c.from_residual.result ≡ Err OtherKind = search rules in
    ap decoding e ∙ decode-other a.typ a.revision a.bytes (sym c.check_form.ensures ∙ c.ok_or.ensures.ok_part ∙ ap result_ok c.in_err-kind.was)

pub returns : goal.returns
returns c =
    let a = c.args in
    decode-done a.typ a.revision a.bytes (sym c.check_form.ensures ∙ c.ok_or.ensures.ok_part ∙ ap result_ok c.in_ok-kind.was) (ap (λ (f : Fields). f.values) c.fields_of.ensures) c.with_header.ensures

-- `Record::put` meets its contract: what the checks answer decides. Assumes nothing.
use mathlib.Core.Path.{◌≡◌, sym, ap, ◌∙◌}
use mathlib.Core.List.{List}
use Prim.Native.Nat.{ℕ, ◌-◌}
use borrow.Author.Rules.{rules}
use lib.ListN.{length, set, take}
use Rattle.std.specs.Prelude.{Err}
use Rattle.fields.specs.Padded.{held}
use Rattle.ticket.specs.Ticket.{record_of, changed}
use Rattle.ticket.proofs.Steps.{set_other, set-refused, set-done}
use Rattle.ticket.proofs.Record.put.Goals as goal

pub returns-in_default : goal.returns-in_default
returns-in_default c = set_other c.args.self.now _ _ (sym c.check_form.ensures ∙ c.in_default.is)

pub returns-in_err-check_field : goal.returns-in_err-check_field
returns-in_err-check_field c =
    let a = c.args in
    let t = a.self.now in
    let e : c.from_residual.result ≡ Err c.in_err-check_field.field-0.0 = search rules in
    let vs = c.trim.ensures ∙ ap (λ (n : ℕ). held (take n t.values)) c.count.ensures in
    rw (e, vs) (set-refused t a.field a.value (sym c.check_form.ensures ∙ c.in-Some.is) (sym c.check_field.ensures ∙ c.in_err-check_field.was))

pub returns : goal.returns
returns c =
    let a = c.args in
    let t = a.self.now in
    let vs = c.trim.ensures ∙ ap (λ (n : ℕ). held (take n t.values)) c.count.ensures in
    let many : length t.values ≡ 25 = search rules in
    ap (λ (vs : List ℕ). changed 0 (record_of t.typ t.revision (set vs (a.field - 1) a.value))) vs
    ∙ set-done t a.field a.value (sym c.check_form.ensures ∙ c.in-Some.is) many (sym c.check_field.ensures ∙ c.in_ok-check_field.was)

-- `fields::pack` meets its contract: the one test is that of the rule. Assumes nothing.
use mathlib.Core.Path.{sym, ◌∙◌}
use Rattle.fields.proofs.Packing.{done, refused}
use Rattle.fields.proofs.pack.Goals as goal

pub returns-then-not-all_fit : goal.returns-then-not-all_fit
returns-then-not-all_fit c =
    let a = c.args in
    refused a.k a.values.now a.out.now (sym c.all_fit.ensures ∙ c.if-not-all_fit.true)

pub returns : goal.returns
returns c =
    let a = c.args in
    let d = done a.k a.values.now a.out.now (sym c.all_fit.ensures ∙ c.if-not-all_fit.false) in
    (d.0, c.write.ensures ∙ d.1)

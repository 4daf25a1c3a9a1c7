-- `kinds::check_form` meets its contract: its arms are the definition's tests, in the order of the kinds. Assumes nothing.
use Rattle.std.proofs.lemmas.Bool.{ne_eqb}
use Rattle.ticket.specs.Kind.{form_in}
use Rattle.ticket.proofs.kinds.check_form.Goals as goal

pub returns-in-23-eq2 : goal.returns-in-23-eq2
unfolding form_in
returns-in-23-eq2 c = rw (c.in-23-eq2.is-0, c.in-23-eq2.is-1)

pub returns-in-22-eq1 : goal.returns-in-22-eq1
unfolding form_in
returns-in-22-eq1 c = rw (c.in-22-eq1.is-0, c.in-22-eq1.is-1)

pub returns-in-22-eq2 : goal.returns-in-22-eq2
unfolding form_in
returns-in-22-eq2 c = rw (c.in-22-eq2.is-0, c.in-22-eq2.is-1)

pub returns-in-22-eq3 : goal.returns-in-22-eq3
unfolding form_in
returns-in-22-eq3 c = rw (c.in-22-eq3.is-0, c.in-22-eq3.is-1)

pub returns-in_default : goal.returns-in_default
unfolding form_in
returns-in_default c =
    let a = c.in_default in
    rw (a.is-0, ne_eqb c.args.revision 2 a.is-1.1)

pub returns-in_default-2 : goal.returns-in_default-2
unfolding form_in
returns-in_default-2 c =
    let a = c.in_default in
    rw (a.is-0, ne_eqb c.args.revision 1 a.is-1.0.0.1, ne_eqb c.args.revision 2 a.is-1.0.1, ne_eqb c.args.revision 3 a.is-1.1)

pub returns-in_default-3 : goal.returns-in_default-3
unfolding form_in
returns-in_default-3 c =
    let a = c.in_default in
    simp (ne_eqb c.args.typ 23 a.is-0.0.1, ne_eqb c.args.typ 22 a.is-0.1)

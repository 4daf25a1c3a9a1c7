-- `readcard::read_table` meets its contract: the elements are listed over zeros. Assumes nothing.
use mathlib.Core.Path.{sym}
use native.Mathlib.Omega.{arith}
use Rattle.std.proofs.lemmas.Result.{err_from_is_err_and}
use Rattle.image.proofs.Accepted.{accepted_open, refused_shut}
use Rattle.reads.specs.Card.{read_table}
use Rattle.reads.proofs.Given.{value-refused, values-refused, none_named}
use Rattle.readcard.proofs.read_table.Goals as goal

pub list_elements-requires : goal.list_elements-requires
list_elements-requires c =
    let b = c.in_ok-card.card.shaped.in_bounds in
    omega (arith, c.in_ok-card.card.shaped.sectors_is)

pub overflow_sub-result : goal.overflow_sub-result
overflow_sub-result c =
    let b = c.in_ok-card.card.shaped.in_bounds in
    omega (arith, c.in_ok-card.card.shaped.sectors_is)

pub returns : goal.returns
unfolding read_table
returns c =
    let e = c.in_ok-card.ensures in
    let o = accepted_open _ _ (sym e.checked) in
    rw (o.number_zero, none_named _ o.number_zero, c.list_elements.ensures, e.asked, o.shape.sectors_is)

pub returns-in_err-card : goal.returns-in_err-card
unfolding read_table
returns-in_err-card c =
    let p = err_from_is_err_and c.from_residual.result c.from_residual.ensures.1 in
    let s = refused_shut _ _ _ (sym c.in_err-card.ensures.checked) in
    rw (p.1, p.2, s.number_is, s.entry-is, value-refused _ _ s.some, values-refused _ 252 _ s.some)

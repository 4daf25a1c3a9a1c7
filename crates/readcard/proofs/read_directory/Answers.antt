-- `readcard::read_directory` meets its contract: the two parts of the directory stand where its shape says. Assumes nothing.
use mathlib.Core.Path.{sym, ◌∙◌}
use native.Mathlib.Omega.{arith}
use Rattle.std.proofs.lemmas.Result.{err_from_is_err_and}
use Rattle.image.proofs.Accepted.{accepted_open, refused_shut}
use Rattle.reads.specs.Card.{read_directory}
use Rattle.reads.proofs.Given.{values-refused, none_named}
use Rattle.reads.proofs.Places.{tail_in_lem, directory-is}
use Rattle.readcard.proofs.read_directory.Goals as goal

pub overflow_add-g : goal.overflow_add-g
overflow_add-g c =
    let s = (accepted_open _ _ (sym c.in_ok-g.ensures)).shape in
    let b = s.in_bounds in
    omega (arith, tail_in_lem b)

pub directory_values-requires : goal.directory_values-requires
directory_values-requires c =
    let s = (accepted_open _ _ (sym c.in_ok-g.ensures)).shape in
    let b = s.in_bounds in
    (omega (arith, tail_in_lem b), omega (arith, tail_in_lem b))

pub returns : goal.returns
unfolding read_directory
returns c = let o = accepted_open _ _ (sym c.in_ok-g.ensures) in
    rw (o.number_zero, none_named _ o.number_zero, c.directory_values.ensures ∙ directory-is o.shape)

pub returns-in_err-g : goal.returns-in_err-g
unfolding read_directory
returns-in_err-g c =
    let p = err_from_is_err_and c.from_residual.result c.from_residual.ensures.1 in
    let s = refused_shut _ _ _ (sym c.in_err-g.ensures) in
    rw (p.1, p.2, s.number_is, s.entry-is, values-refused _ 7 _ s.some)

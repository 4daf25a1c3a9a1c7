-- `readcard::read_shell` meets its contract: the shell stands from byte 4 on. Assumes nothing.
use mathlib.Core.Path.{sym}
use native.Mathlib.Omega.{arith}
use Rattle.std.proofs.lemmas.Result.{err_from_is_err_and}
use Rattle.image.specs.Bounds.{Bounds}
use Rattle.image.specs.Image.{shell_values}
use Rattle.image.proofs.Accepted.{accepted_open, refused_shut}
use Rattle.image.proofs.Places.{from_is, from-length}
use Rattle.reads.specs.Card.{read_shell}
use Rattle.reads.proofs.Given.{values-refused, none_named}
use Rattle.readcard.proofs.read_shell.Goals.{In_ok-check}
use Rattle.readcard.proofs.read_shell.Goals as goal

in_bounds : (c : In_ok-check) → Bounds c.args.image.now
in_bounds c = (accepted_open _ _ (sym c.in_ok-check.ensures)).shape.in_bounds

pub slice_bounds-shell_in-count : goal.slice_bounds-shell_in-count
slice_bounds-shell_in-count c = omega (arith, in_bounds c)

pub slice_bounds-shell_in-start : goal.slice_bounds-shell_in-start
slice_bounds-shell_in-start c = omega (arith, in_bounds c)

pub shell_in-shell-requires : goal.shell_in-shell-requires
shell_in-shell-requires c = simp from-length (omega (arith, in_bounds (goal.at.shell_in-shell-requires c).In_ok-check))

pub returns : goal.returns
unfolding read_shell shell_values
returns c = let o = accepted_open _ _ (sym c.in_ok-check.ensures) in
    rw (o.number_zero, none_named _ o.number_zero, c.shell_in-shell.ensures) (simp from_is)

pub returns-in_err-check : goal.returns-in_err-check
unfolding read_shell
returns-in_err-check c =
    let p = err_from_is_err_and c.from_residual.result c.from_residual.ensures.1 in
    let s = refused_shut _ _ _ (sym c.in_err-check.ensures) in
    rw (p.1, p.2, s.number_is, s.entry-is, values-refused _ 16 _ s.some)

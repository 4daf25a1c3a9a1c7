-- `touched::touched` meets its contract: it answers as `Compare` says at each return, and the flags are those of the entries. Assumes nothing.
use Rattle.std.proofs.Common.{refl, sym}
use Rattle.std.proofs.lemmas.Result.{err_from_is_err_and}
use Rattle.image.proofs.Accepted.{accepted_open}
use Rattle.rules.proofs.ReasonLaws.{number-ne0}
use Rattle.touched.proofs.Compare.{first-refused, second-refused, rules-refused, compare-taken, flags-many, one-shape-of}
use Rattle.touched.proofs.touched.Goals as goal

pub returns-in_err-before : goal.returns-in_err-before
returns-in_err-before c =
    let a = c.args in
    let p = err_from_is_err_and c.from_residual.result c.from_residual.ensures.1 in
    rw (p.1, p.2) (first-refused a.before.now a.after.now a.flags.now _ _ (sym c.in_err-before.ensures.checked))

pub returns-in_err-check : goal.returns-in_err-check
returns-in_err-check c =
    let a = c.args in
    let p = err_from_is_err_and c.from_residual-in_err-check.result c.from_residual-in_err-check.ensures.1 in
    rw (p.1, p.2) (second-refused a.before.now a.after.now a.flags.now (accepted_open _ _ (sym c.in_ok-before.ensures.checked)) _ _ (sym c.in_err-check.ensures))

pub returns-in_err-compare_shapes : goal.returns-in_err-compare_shapes
returns-in_err-compare_shapes c =
    let a = c.args in
    let p = err_from_is_err_and c.from_residual-in_err-compare_shapes.result c.from_residual-in_err-compare_shapes.ensures.1 in
    rw (p.1, p.2)
    (rules-refused a.before.now a.after.now a.flags.now (accepted_open _ _ (sym c.in_ok-before.ensures.checked)) (accepted_open _ _ (sym c.in_ok-check.ensures)) _ c.in_err-compare_shapes.ensures (number-ne0 _))

pub invariant_of-flag : goal.invariant_of-flag
invariant_of-flag c =
    let a = c.args in
    let e = c.in_ok-before.ensures in
    rw e.asked (record { one_shape = one-shape-of a.before.now a.after.now a.flags.now (accepted_open _ _ (sym e.checked)) (accepted_open _ _ (sym c.in_ok-check.ensures)) _ c.in_ok-compare_shapes.ensures refl })

pub flag-requires : goal.flag-requires
flag-requires c =
    let a = c.args in
    flags-many a.before.now a.after.now a.flags.now (accepted_open _ _ (sym c.in_ok-before.ensures.checked)) (accepted_open _ _ (sym c.in_ok-check.ensures)) _ c.in_ok-compare_shapes.ensures refl

pub returns : goal.returns
returns c =
    let a = c.args in
    let e = c.in_ok-before.ensures in
    compare-taken a.before.now a.after.now a.flags.now (accepted_open _ _ (sym e.checked)) (accepted_open _ _ (sym c.in_ok-check.ensures)) _ c.in_ok-compare_shapes.ensures _ refl (rw e.asked at c.flag.ensures)

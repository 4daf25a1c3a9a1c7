-- `entry::accepted` meets its contract: the shape that a check gives is the image's. Assumes nothing.
use mathlib.Core.Path.{refl, sym}
use Rattle.std.proofs.lemmas.Result.{err_from_is_err_and}
use Rattle.image.proofs.Accepted.{accepted_open}
use Rattle.verdict.proofs.entry.accepted.Goals as goal

pub returns-in_err-shape : goal.returns-in_err-shape
returns-in_err-shape c =
    let p = err_from_is_err_and c.from_residual.result c.from_residual.ensures.1 in
    rw (p.1, p.2) (record { checked = c.in_err-shape.ensures; asked = tt })

pub invariant_of-result : goal.invariant_of-result
invariant_of-result c = record { shaped = (accepted_open _ _ (sym c.in_ok-shape.ensures)).shape }

pub returns : goal.returns
returns c = record { checked = c.in_ok-shape.ensures; asked = refl }

-- `entry::product` meets its contract: what is found of the entry, and the image measured, are its product. Assumes nothing.
use mathlib.Core.Path.{refl}
use Rattle.std.proofs.lemmas.Result.{err_from_is_err_and}
use Rattle.image.proofs.Founds.{finds}
use Rattle.verdict.proofs.entry.product.Goals as goal

pub returns-in_err-chain : goal.returns-in_err-chain
returns-in_err-chain c =
    let p = err_from_is_err_and c.from_residual.result c.from_residual.ensures.1 in
    rw (p.1, p.2) (record { found = c.in_err-chain.ensures; asked = tt })

pub invariant_of-measured : goal.invariant_of-measured
invariant_of-measured c = record { bounds = (finds _ _ c.in_ok-chain.ensures refl).in_bounds }

pub invariant_of-result : goal.invariant_of-result
invariant_of-result c =
    let k = finds _ _ c.in_ok-chain.ensures refl in
    rw c.measured-card.ensures (record { accepted = k.accepted; is_there = k.is_there; last_is = k.last-is; count_is = k.count-is })

pub returns : goal.returns
returns c = record { found = c.in_ok-chain.ensures; asked = (c.measured-card.ensures, refl) }

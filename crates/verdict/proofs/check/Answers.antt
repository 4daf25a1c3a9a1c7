-- `verdict::check` meets its contract: the rules 1 to 9 and 12 decide, and then the chains. Assumes nothing.
use mathlib.Core.Path.{refl}
use Rattle.std.proofs.lemmas.Result.{err_from_is_err_and}
use Rattle.rules.proofs.ReasonLaws.{number-ne0}
use Rattle.image.proofs.Verdict.{ruled_out, ruled-bounds}
use Rattle.verdict.proofs.Parts.{chains-refuse, chains-pass, check-refused, check-accepted}
use Rattle.verdict.proofs.check.Goals as goal

pub returns-in_err-number : goal.returns-in_err-number
returns-in_err-number c =
    let p = err_from_is_err_and c.from_residual.result c.from_residual.ensures.1 in
    rw (p.1, p.2) (check-refused _ (number-ne0 _) (ruled_out _ c.in_err-number.ensures (number-ne0 _)))

pub invariant_of-bounded : goal.invariant_of-bounded
invariant_of-bounded c = record { bounds = ruled-bounds _ c.in_ok-number.ensures refl }

pub returns-in_err-chains : goal.returns-in_err-chains
returns-in_err-chains c =
    let p = err_from_is_err_and c.from_residual-in_err-chains.result c.from_residual-in_err-chains.ensures.1 in
    let v = chains-refuse _ _ c.in_ok-number.ensures refl c.in_err-chains.ensures refl in
    rw (p.1, p.2) (check-refused _ v.0 v.1)

pub returns : goal.returns
returns c =
    check-accepted _ (chains-pass _ _ c.in_ok-number.ensures refl c.in_ok-chains.ensures refl).0 (rw c.measured.ensures at c.measured.result.shaped)

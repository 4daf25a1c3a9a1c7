-- `verdict::find` meets its contract: the image's own numbers are those of a check, and a last sector 0 says that the entry is no product.
-- Assumes nothing.
use Rattle.std.proofs.Common.{Bool, true, false, List, ℕ, ◌≡◌, ◌/◌, ◌%◌, cond, Some, None, refl, sym, ◌∙◌}
use lib.Dec.{eqb}
use borrow.Author.Tests.{eqb-true, eqb-false}
use Rattle.std.specs.Option.{ok_or}
use Rattle.image.specs.Found.{found, found_of, last_at, count_at}
use Rattle.image.specs.Verdict.{verdict}
use Rattle.rules.specs.declared.Reason.TheVariants.{NoProduct}
use Rattle.verdict.specs.Passed.{chain_told}
use Rattle.std.proofs.lemmas.Result.{err_from_is_err_and}
use Rattle.rules.proofs.ReasonLaws.{number-ne0}
use Rattle.image.proofs.Founds.{found-refused, found-missing, found-there}
use Rattle.image.proofs.Verdict.{ruled_out, ruled-bounds}
use Rattle.verdict.proofs.Parts.{chains-refuse, chains-pass}
use Rattle.verdict.proofs.find.Goals as goal

pub returns-in_err-number : goal.returns-in_err-number
returns-in_err-number c =
    let p = err_from_is_err_and c.from_residual.result c.from_residual.ensures.1 in
    rw (p.1, p.2) (found-refused _ _ (number-ne0 _) (ruled_out _ c.in_err-number.ensures (number-ne0 _)))

pub invariant_of-chains : goal.invariant_of-chains
invariant_of-chains c = record { bounds = ruled-bounds _ c.in_ok-number.ensures refl }

pub returns-in_err-told : goal.returns-in_err-told
returns-in_err-told c =
    let p = err_from_is_err_and c.from_residual-in_err-told.result c.from_residual-in_err-told.ensures.1 in
    let v = chains-refuse _ _ c.in_ok-number.ensures refl c.in_err-told.ensures refl in
    rw (p.1, p.2) (found-refused _ _ v.0 v.1)

-- a last sector 0 says that there is none
of-told : (c : List ℕ) (j t : ℕ) → (verdict c).number ≡ 0 → t % 256 ≡ last_at c j → t / 256 ≡ count_at c j
    → found (ok_or (chain_told t) (record { reason = NoProduct; entry = j })) ≡ found_of c j
of-told c j t z p n = go (eqb (t % 256) 0) refl
  where
    go : (b : Bool) → eqb (t % 256) 0 ≡ b → found (ok_or (cond b None (Some (record { last = t % 256; count = t / 256 }))) (record { reason = NoProduct; entry = j })) ≡ found_of c j
    go true e = found-missing c j z (sym (eqb-true (t % 256) 0 e) ∙ p)
    go false e = found-there c j z (eqb-false (t % 256) 0 e) p n

pub returns : goal.returns
returns c =
    let p = chains-pass _ _ c.in_ok-number.ensures refl c.in_ok-told.ensures refl in
    rw (c.ok_or.ensures.value, c.chain.ensures, c.at.ensures) (of-told c.args.image.now c.args.entry c.in_ok-told.told.0 p.0 p.1 p.2)

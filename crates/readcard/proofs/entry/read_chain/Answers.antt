-- `entry::read_chain` meets its contract: what was found of the chain is its own, and its sectors are listed over zeros. Assumes nothing.
use mathlib.Core.Path.{sym}
use mathlib.Core.List.{[]}
use native.Mathlib.Omega.{arith}
use Rattle.std.proofs.lemmas.Result.{err_from_is_err_and}
use Rattle.rules.specs.First.{first}
use Rattle.image.proofs.Products.{there}
use Rattle.reads.specs.Entry.{read_chain}
use Rattle.image.proofs.Asked.{asked-there}
use Rattle.reads.proofs.Given.{value-refused, values-refused}
use Rattle.reads.proofs.Known.{found-not, there-few}
use Rattle.readcard.proofs.entry.read_chain.Goals as goal

pub list_sectors-requires : goal.list_sectors-requires
list_sectors-requires c =
    let p = c.in_ok-found.found in
    let b = p.card.shaped.in_bounds in
    omega (arith, p.count_is, there-few (there p))

pub returns : goal.returns
unfolding read_chain first
returns c =
    let p = c.in_ok-found.found in
    let a = c.in_ok-found.ensures.asked in
    rw (← a.0, ← a.1, asked-there _ _ _ p.accepted p.is_there, c.list_sectors.ensures, c.mark.ensures, ← p.count_is)

pub returns-in_err-found : goal.returns-in_err-found
unfolding read_chain
returns-in_err-found c =
    let p = err_from_is_err_and c.from_residual.result c.from_residual.ensures.1 in
    let s = found-not _ _ (sym c.in_err-found.ensures.found) (λ p. []) in
    rw (p.1, p.2, s.number_is, s.entry-is, value-refused _ _ s.some, value-refused _ _ s.some, values-refused _ 252 _ s.some)

-- `checks::judge` meets its contract: each check is answered as its definition says, and the first that fails gives the number.
-- Assumes nothing.
use mathlib.Core.Path.{sym, ap, ◌∙◌}
use borrow.Author.Tests.{le-leb, lt-leb}
use lib.Dec.{leb}
use Prim.Native.Nat.{ℕ}
use Rattle.std.proofs.lemmas.Result.{err_from_is_err_and}
use Rattle.readticket.proofs.InOrder.{at_room, at_kind, at-end}
use Rattle.readticket.proofs.checks.judge.Goals as goal

pub returns-then-room-size : goal.returns-then-room-size
returns-then-room-size c =
    let p = c.args.found.now in
    rw c.at.ensures (at_room _ _ c.args.room p.accepted p.is_there (ap (λ (n : ℕ). leb n c.args.room) (sym c.size-size.ensures) ∙ lt-leb _ _ c.if-room-size.true))

pub returns-in_err-kind : goal.returns-in_err-kind
returns-in_err-kind c =
    let p = c.args.found.now in
    let e = err_from_is_err_and c.from_residual.result c.from_residual.ensures.1 in
    rw (e.1, e.2)
    (at_kind _ _ c.args.room p.accepted p.is_there (ap (λ (n : ℕ). leb n c.args.room) (sym c.size-size.ensures) ∙ le-leb _ _ c.if-room-size.false) c.in_err-kind.ensures)

pub returns : goal.returns
returns c =
    let p = c.args.found.now in
    at-end _ _ c.args.room p.accepted p.is_there (ap (λ (n : ℕ). leb n c.args.room) (sym c.size-size.ensures) ∙ le-leb _ _ c.if-room-size.false)
    c.in_ok-kind.ensures c.stated_of.ensures p.count_is c.mark.ensures

-- `readticket::take` meets its contract: the product is copied only where every check has passed. Assumes nothing.
use mathlib.Core.Path.{sym}
use native.Mathlib.Omega.{arith}
use lib.ListN.{length}
use Rattle.std.proofs.lemmas.Result.{err_from_is_err_and}
use Rattle.reads.specs.Ticket.{buffer_after}
use Rattle.rules.proofs.AnswerLaws.{refused-stays}
use Rattle.image.proofs.Products.{sized}
use Rattle.readticket.proofs.InOrder.{at-product}
use Rattle.readticket.proofs.Taken.{judged-taken, judged-refused}
use Rattle.readticket.proofs.take.Goals as goal

pub returns-in_err-found : goal.returns-in_err-found
unfolding buffer_after
returns-in_err-found c =
    let p = err_from_is_err_and c.from_residual.result c.from_residual.ensures.1 in
    let e = at-product _ _ (length c.args.buffer.now) (sym c.in_err-found.ensures.found) in
    let s = judged-refused _ _ _ (sym e) in
    record { value = rw (p.1, p.2) e; buffer_after = rw s.number_is (sym (refused-stays _ _ _ s.some)) }

pub returns-in_err-sound : goal.returns-in_err-sound
unfolding buffer_after
returns-in_err-sound c =
    let p = err_from_is_err_and c.from_residual-in_err-sound.result c.from_residual-in_err-sound.ensures.1 in
    let a = c.in_ok-found.ensures.asked in
    let e = rw (a.0, a.1) at c.in_err-sound.ensures in
    let s = judged-refused _ _ _ (sym e) in
    record { value = rw (p.1, p.2) e; buffer_after = rw s.number_is (sym (refused-stays _ _ _ s.some)) }

pub copy_product-requires : goal.copy_product-requires
copy_product-requires c =
    let k = judged-taken _ _ _ _ (sym c.in_ok-sound.ensures) in
    omega (arith, k.room-enough, sized c.in_ok-found.found)

pub returns : goal.returns
unfolding buffer_after
returns c =
    let a = c.in_ok-found.ensures.asked in
    let e = rw (a.0, a.1) at c.in_ok-sound.ensures in
    let k = judged-taken _ _ _ _ (sym e) in
    record { value = e; buffer_after = rw k.number_zero (rw (a.0, a.1) at c.copy_product.ensures) }

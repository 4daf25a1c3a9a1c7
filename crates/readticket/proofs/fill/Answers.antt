-- `readticket::fill` meets its contract: `take` has filled the buffer and tells the kind and the header. Assumes nothing.
use mathlib.Core.Path.{refl, sym}
use native.Mathlib.Omega.{arith}
use Rattle.std.proofs.lemmas.Result.{err_from_is_err_and}
use Rattle.readticket.proofs.Taken.{judged-taken, judged-refused}
use Rattle.readticket.proofs.TwoCalls.{blocks-below, fill-taken, fill-refused}
use Rattle.readticket.proofs.fill.Goals as goal

pub overflow_mul-end : goal.overflow_mul-end
overflow_mul-end c = omega (arith, blocks-below _ _ _ (judged-taken _ _ _ _ (sym c.in_ok-sound.ensures.value)))

pub returns : goal.returns
returns c =
    let e = c.in_ok-sound.ensures in
    record { value = fill-taken _ _ _ (judged-taken _ _ _ _ (sym e.value)) c.rest.ensures refl; buffer_after = e.buffer_after }

pub returns-in_err-sound : goal.returns-in_err-sound
returns-in_err-sound c =
    let p = err_from_is_err_and c.from_residual.result c.from_residual.ensures.1 in
    let e = c.in_err-sound.ensures in
    record { value = rw (p.1, p.2) (fill-refused _ _ _ (judged-refused _ _ _ (sym e.value))); buffer_after = e.buffer_after }

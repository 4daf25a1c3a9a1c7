-- `readticket::rest` meets its contract: what `fill` answered tells where the part lies, and what the buffer holds. Assumes nothing.
use mathlib.Core.Path.{refl, ap}
use native.Mathlib.Omega.{arith}
use lib.ListN.{length}
use Rattle.rules.proofs.ReasonLaws.{number-ne0}
use Rattle.readticket.proofs.TwoCalls.{Ending, fill-ends, fill-barred, rest-none, rest-nowhere, rest_from, after-length, rest_part}
use Rattle.readticket.proofs.rest.Goals.{In-Ok}
use Rattle.readticket.proofs.rest.Goals as goal

-- the part's two ends that `fill` answered
ending : (c : In-Ok) → (let a = c.args in let d = c.in-Ok.field-0 in Ending a.image.now a.entry (length a.buffer.now) d.from d.end)
ending c = fill-ends _ _ _ c.in-Ok.ensures.value refl

pub returns-in_default : goal.returns-in_default
returns-in_default c =
    let s = fill-barred _ _ _ c.in_default.ensures.value (number-ne0 _) in
    rw (rest-none _ _ _ s, rest-nowhere _ _ _ s) (record { result_value = refl; ref_ptr_value = (refl, refl) })

pub slice_bounds-result-count-2 : goal.slice_bounds-result-count-2
slice_bounds-result-count-2 c = (ending c).ordered

pub slice_bounds-buffer-start-2 : goal.slice_bounds-buffer-start-2
slice_bounds-buffer-start-2 c = (ending c).ordered

pub slice_bounds-buffer-end-2 : goal.slice_bounds-buffer-end-2
slice_bounds-buffer-end-2 c =
    let k = ending c in
    let a = c.args in
    omega (arith, k.in_product, k.in_room, ap length c.in-Ok.ensures.buffer_after, after-length a.image.now a.entry a.buffer.now k)

pub returns : goal.returns
returns c =
    let k = ending (goal.at.returns c).In-Ok in
    let a = c.args in
    record { result_value = rw c.in-Ok.ensures.buffer_after (rest_part a.image.now a.entry a.buffer.now k); ref_ptr_value = (refl, rw (rest_from _ _ _ k)) }

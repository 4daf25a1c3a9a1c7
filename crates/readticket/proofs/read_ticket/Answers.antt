-- `readticket::read_ticket` meets its contract: `take` has filled the buffer, and what is read is read of the first sector, by its kind. Assumes nothing.
use mathlib.Core.Path.{sym, ◌∙◌}
use native.Mathlib.Omega.{arith}
use Prim.Native.Nat.{◌+◌, ◌≤◌}
use lib.ListN.{length}
use Rattle.std.proofs.lemmas.Result.{err_from_is_err_and}
use Rattle.image.specs.Shape.{Shaped, sector_place}
use Rattle.readticket.proofs.Taken.{judged-taken, judged-refused}
use Rattle.readticket.proofs.TwoCalls.{start-within, first-room, told-asks, told-read, read-refused}
use Rattle.readticket.proofs.read_ticket.Goals.{After-measured-card}
use Rattle.readticket.proofs.read_ticket.Goals as goal

-- the shape is the image's
shaped : (c : After-measured-card) → Shaped c.args.image.now c.measured-card.result.shape
shaped c = rw c.measured-card.ensures at c.measured-card.result.shaped

-- the product's first thirty-two bytes
within : (c : After-measured-card) → (let g = c.measured-card.result.shape in
    (c.args.entry ≤ 255) × (g.size ≤ 255) × (sector_place g c.args.entry + 32 ≤ length c.args.image.now))
within c = start-within _ _ _ (judged-taken _ _ _ _ (sym c.in_ok-sound.ensures.value)) (shaped c)

pub invariant_of-measured : goal.invariant_of-measured
invariant_of-measured c = record { bounds = (judged-taken _ _ _ _ (sym c.in_ok-sound.ensures.value)).known.opened.shape.in_bounds }

pub sector_at-start-requires : goal.sector_at-start-requires
sector_at-start-requires c = (within (goal.at.sector_at-start-requires c).After-measured-card).0

pub slice_bounds-first-count : goal.slice_bounds-first-count
slice_bounds-first-count c = omega (arith, c.sector_at-start.ensures, within (goal.at.slice_bounds-first-count c).After-measured-card)

pub slice_bounds-first-start : goal.slice_bounds-first-start
slice_bounds-first-start c = omega (arith, c.sector_at-start.ensures, within (goal.at.slice_bounds-first-start c).After-measured-card)

pub fields_of-requires : goal.fields_of-requires
fields_of-requires c =
    first-room _ _ _ (judged-taken _ _ _ _ (sym c.in_ok-sound.ensures.value)) (shaped (goal.at.fields_of-requires c).After-measured-card) c.sector_at-start.ensures

pub told-requires : goal.told-requires
told-requires c =
    told-asks _ _ _ (judged-taken _ _ _ _ (sym c.in_ok-sound.ensures.value)) (shaped (goal.at.told-requires c).After-measured-card) c.sector_at-start.ensures c.fields_of.ensures

pub returns : goal.returns
returns c =
    let e = c.in_ok-sound.ensures in
    record {
      value = c.told.ensures ∙ told-read _ _ _ (judged-taken _ _ _ _ (sym e.value)) (shaped (goal.at.returns c).After-measured-card) c.sector_at-start.ensures c.fields_of.ensures;
      buffer_after = e.buffer_after;
    }

pub returns-in_err-sound : goal.returns-in_err-sound
returns-in_err-sound c =
    let p = err_from_is_err_and c.from_residual.result c.from_residual.ensures.1 in
    let e = c.in_err-sound.ensures in
    record { value = rw (p.1, p.2) (read-refused _ _ _ (judged-refused _ _ _ (sym e.value))); buffer_after = e.buffer_after }

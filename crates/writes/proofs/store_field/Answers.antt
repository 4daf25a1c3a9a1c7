-- `writes::store_field` meets its contract: the part comes back with the value stored, which is the value stored in the image. Assumes nothing.
use native.Mathlib.Omega.{arith}
use Rattle.writes.proofs.Stored.{part_in, part_room, field-placed}
use Rattle.writes.proofs.store_field.Goals as goal

pub overflow_add-to : goal.overflow_add-to
overflow_add-to c = let p = c.requires in omega (arith, part_in p.shaped (p.le.0, p.le.1) c.sector_from-from.ensures.0, p.shaped.in_bounds)

pub slice_bounds-store_at-end : goal.slice_bounds-store_at-end
slice_bounds-store_at-end c = let p = c.requires in part_in p.shaped (p.le.0, p.le.1) c.sector_from-from.ensures.0

pub store_at-requires : goal.store_at-requires
store_at-requires c =
    let p = c.requires in
    (p.le.2, omega (arith, p.le.3, part_room p.shaped (p.le.0, p.le.1) c.sector_from-from.ensures.0))

pub returns : goal.returns
returns c =
    let p = c.requires in
    field-placed p.shaped (p.le.0, p.le.1) c.sector_from-from.ensures.0 (λ i. (c.slice_known-1.given i).fits) _ _ _ p.le.3 c.store_at.ensures

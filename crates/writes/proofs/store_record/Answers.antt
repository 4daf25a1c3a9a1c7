-- `writes::store_record` meets its contract: the part comes back with the fields stored, which is the fields stored in the image, or as it was. Assumes nothing.
use native.Mathlib.Omega.{arith}
use Rattle.ticket.specs.Kind.{row_of}
use Rattle.fields.proofs.Joined.{ends_early}
use Rattle.writes.proofs.Stored.{part_in, part_room, laid}
use Rattle.writes.proofs.store_record.Goals as goal

pub overflow_add-to : goal.overflow_add-to
overflow_add-to c = let p = c.requires in omega (arith, part_in p.shaped (p.le.0, p.le.1) c.sector_from-from.ensures.0, p.shaped.in_bounds)

pub slice_bounds-lay-end : goal.slice_bounds-lay-end
slice_bounds-lay-end c = let p = c.requires in part_in p.shaped (p.le.0, p.le.1) c.sector_from-from.ensures.0

pub lay-requires : goal.lay-requires
lay-requires c =
    let p = c.requires in
    omega (arith, ends_early (row_of c.args.k).layout, part_room p.shaped (p.le.0, p.le.1) c.sector_from-from.ensures.0)

pub returns : goal.returns
returns c =
    let p = c.requires in
    let e = c.lay.ensures in record {
      value = e.value;
      image_after = laid p.shaped (p.le.0, p.le.1) c.sector_from-from.ensures.0 (λ i. (c.slice_known-1.given i).fits)
          (row_of c.args.k).layout (omega (arith, ends_early (row_of c.args.k).layout)) _ _ e.s_after;
    }

-- `marks::store_mark` meets its contract: the directory sector comes back with the element stored, which is the element stored in the image. Assumes nothing.
use native.Mathlib.Omega.{arith}
use Rattle.image.proofs.Places.{part_long}
use Rattle.marks.proofs.Stored.{table-inside, mark-placed}
use Rattle.marks.proofs.store_mark.Goals as goal

pub put-requires : goal.put-requires
put-requires c =
    let p = c.requires in
    let b = p.shaped.in_bounds in
    record { inside = table-inside p.shaped _ (part_long _ _ _ (omega (arith, p.shaped.directory-is, p.shaped.size_is, b.directory_in))); sector = p.sector }

pub returns : goal.returns
returns c = mark-placed c.requires.shaped (λ i. (c.slice_known-1.given i).fits) _ _ _ c.requires.sector c.put.ensures

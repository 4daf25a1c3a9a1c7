-- `Measured::header_field` meets its contract: the header lies in the product's first sector. Assumes nothing.
use mathlib.Core.Path.{◌∙◌}
use Prim.Native.Nat.{◌-◌, ◌*◌}
use native.Mathlib.Omega.{arith}
use lib.ListN.{length}
use Rattle.fields.specs.declared.Layout.TheVariants.{Header}
use Rattle.fields.proofs.Joined.{place-fits}
use Rattle.image.proofs.Shapes.{sector-is}
use Rattle.image.proofs.Places.{from_is, from-length, sector-in, own-sector, value-first}
use Rattle.image.proofs.measured.Measured.header_field.Goals as goal

pub slice_bounds-at-count : goal.slice_bounds-at-count
slice_bounds-at-count c = let p = c.requires in omega (arith, c.sector_at-at.ensures, sector-in c.args.self.now.shaped _ (own-sector p.present))

pub at-requires : goal.at-requires
at-requires c =
    let p = c.requires in
    let b = c.args.self.now.shaped.in_bounds in
    rw c.place.ensures
    (simp from-length (place-fits Header c.args.i (8 * (length c.args.self.now.image.now - c.sector_at-at.result)) p.i_bound
    (omega (arith, c.sector_at-at.ensures, sector-in c.args.self.now.shaped _ (own-sector p.present), c.args.self.now.shaped.size_is))))

pub returns : goal.returns
returns c =
    let p = c.requires in
    rw (from_is, c.sector_at-at.ensures, sector-is c.args.self.now.shaped c.args.j, c.place.ensures) at c.at.ensures
    ∙ value-first p.present Header c.args.i p.i_bound (omega arith)

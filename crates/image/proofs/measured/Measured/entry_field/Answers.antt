-- `Measured::entry_field` meets its contract: the entry stands where the shape says. Assumes nothing.
use Prim.Native.Nat.{◌-◌, ◌*◌}
use native.Mathlib.Omega.{arith}
use lib.ListN.{length}
use Rattle.fields.specs.declared.Layout.TheVariants.{Entry}
use Rattle.fields.proofs.Joined.{place-fits}
use Rattle.image.proofs.Shapes.{entry-is}
use Rattle.image.proofs.Places.{from_is, from-length}
use Rattle.image.proofs.measured.Measured.entry_field.Goals as goal

pub at-requires : goal.at-requires
at-requires c =
    rw c.place.ensures (simp from-length (place-fits Entry c.args.i (8 * (length c.args.self.now.image.now - c.entry_at-at.result)) c.requires.2 (omega arith)))

pub returns : goal.returns
returns c =
    rw (from_is, c.entry_at-at.ensures, entry-is c.args.self.now.shaped c.args.j, c.place.ensures) at c.at.ensures

-- `fields::value` meets its contract: by the rule of the lists the place lies within the bytes. Assumes nothing.
use Prim.Native.Nat.{◌*◌}
use lib.ListN.{length}
use Rattle.fields.proofs.Joined.{place-fits}
use Rattle.fields.proofs.value.Goals as goal

pub at-requires : goal.at-requires
at-requires c =
    rw c.place.ensures (place-fits c.args.k c.args.i (8 * length c.args.s.now) c.requires.0 c.requires.1)

-- `ticket::check_field` meets its contract: its tests are the rules'. Assumes nothing.
use Prim.Native.Nat.{◌-◌}
use native.Mathlib.Omega.{arith}
use Rattle.fields.proofs.Joined.{width_small}
use Rattle.ticket.proofs.check_field.Goals as goal

pub largest-requires : goal.largest-requires
largest-requires c = rw c.place-p.ensures (omega (arith, width_small c.layout.result (c.args.field - 1)))

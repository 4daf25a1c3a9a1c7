-- `fields::all_fit` meets its contract: the list's places are those that are looked at. Assumes nothing.
use Rattle.fields.proofs.Joined.{widths_small}
use Rattle.fields.proofs.all_fit.Goals as goal

pub each_fits-requires : goal.each_fits-requires
each_fits-requires c = (rw c.places.ensures c.requires, widths_small c.args.k c.places.result.now c.places.ensures)

-- `Date::on_day` meets its contract: where the two ways meet it has the day of the year, as though February had thirty days. Assumes nothing.
use native.Mathlib.Omega.{arith}
use Rattle.dates.proofs.ReadOff.{up-to-february, from-march, read_off}
use Rattle.dates.proofs.calendar.Date.on_day.Goals as goal

pub returns : goal.returns
returns c = let n = c.args.n in read_off n c.requires _ (grind (arith, up-to-february n c.requires, from-march n c.requires))

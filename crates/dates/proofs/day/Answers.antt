-- `day` meets its contract: only the stamp 0 is not its own day number. Assumes nothing.
use mathlib.Core.Path.{ap, sym}
use native.Mathlib.Omega.{arith}
use Rattle.dates.specs.Calendar.{day_of}
use Rattle.dates.proofs.Stamps.{day_itself}
use Rattle.dates.proofs.day.Goals as goal

pub returns-then-stamp-eq0 : goal.returns-then-stamp-eq0
returns-then-stamp-eq0 c = sym (ap day_of c.if-stamp-eq0.true)

pub returns-else-stamp-eq0 : goal.returns-else-stamp-eq0
returns-else-stamp-eq0 c = sym (day_itself c.args.stamp (omega arith))

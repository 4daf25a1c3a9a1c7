-- An annex: what C is told of a date or a stamp: the number of the result, and its value, or zeros where it is refused. Assumes nothing.
use Rattle.std.specs.Prelude.{ℕ, Result}
use Rattle.std.specs.Result.{result_unwrap_or}
use Rattle.rules.specs.declared.Reason.{Reason}
use Rattle.rules.specs.Reasons.{said}
use Rattle.dates.specs.declared.calendar.Date.{Date}
use Rattle.dates.specs.declared.Dated.{Dated}
use Rattle.dates.specs.declared.Stamped.{Stamped}
use Rattle.dates.specs.Calendar.{date, dated, stamped}

abbrev pub coded_date : Result Date Reason → Dated
coded_date r = dated (said r) (result_unwrap_or r (date 0 0 0))

abbrev pub coded_stamp : Result ℕ Reason → Stamped
coded_stamp r = stamped (said r) (result_unwrap_or r 0)

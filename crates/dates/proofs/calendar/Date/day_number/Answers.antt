-- `Date::day_number` meets its contract: where the two ways meet, the sum is the date's number and 729,407. Assumes nothing.
use native.Mathlib.Omega.{arith}
use Rattle.dates.proofs.Months.{month-most}
use Rattle.dates.proofs.Added.{sum-early, sum-late}
use Rattle.dates.proofs.calendar.Date.day_number.Goals as goal

pub overflow_add-result-3 : goal.overflow_add-result-3
overflow_add-result-3 c = let d = c.args.self in omega (arith, month-most d.year d.month (omega arith))

pub returns : goal.returns
returns c =
    let d = c.args.self in
    let pre = c.requires in
    grind (arith, sum-early d pre.counted pre.year_bound, sum-late d pre.counted pre.year_bound)

-- `Date::has_stamp` meets its contract: where the ways meet the date is possible, if it is of these years, and the year tells. Assumes nothing.
use Prim.Native.Nat.{◌≤◌}
use Rattle.dates.specs.Calendar.{date}
use Rattle.dates.specs.Impossible.{Possible}
use Rattle.dates.proofs.Judged.{no-such-month, first-days, no-such-day, last-days, no-leap-day, leap-day, whole-year, first-year, last-year, other-year}
use Rattle.dates.proofs.calendar.Date.has_stamp.Goals as goal
use Rattle.dates.proofs.calendar.Date.has_stamp.Goals.{Joined-day, then-day+then-month-eq2+else-day-year, then-day+else-month-eq2+else-day-month, else-day}

-- where the ways meet
possible : (j : Joined-day) → let a = j.args.self in 1997 ≤ a.year → a.year ≤ 2041 → Possible (date a.year a.month a.day)
possible j f l =
    let m = j.if-month.false in
    let a = j.args.self in
    elim j.if-day.branch [
      | then-day+then-month-eq2+else-day-year w ↦ leap-day a.year a.month a.day w.if-month-eq2.true f l w.if-day-year.false
      | then-day+else-month-eq2+else-day-month w ↦ last-days a.year a.month a.day m w.if-month-eq2.false w.if-day-month.false
      | else-day w ↦ first-days a.year a.month a.day m w.if-day.false
    ]

pub returns-then-month : goal.returns-then-month
returns-then-month c = let a = c.args.self in no-such-month a.year a.month a.day c.if-month.true

pub returns-then-day-year : goal.returns-then-day-year
returns-then-day-year c =
    let a = c.args.self in
    no-leap-day a.year a.month a.day c.if-month-eq2.true c.if-day.true c.if-day-year.true

pub returns-then-day-month : goal.returns-then-day-month
returns-then-day-month c =
    let a = c.args.self in
    no-such-day a.year a.month a.day c.if-month.false c.if-month-eq2.false c.if-day-month.true

pub returns-then-year : goal.returns-then-year
returns-then-year c = let a = c.args.self in whole-year a.year a.month a.day (possible (goal.at.returns-then-year c).Joined-day) c.if-year.true

pub returns-then-year-eq1997 : goal.returns-then-year-eq1997
returns-then-year-eq1997 c =
    let a = c.args.self in
    first-year a.year a.month a.day (possible (goal.at.returns-then-year-eq1997 c).Joined-day) c.if-year-eq1997.true

pub returns-then-year-eq2041 : goal.returns-then-year-eq2041
returns-then-year-eq2041 c =
    let a = c.args.self in
    last-year a.year a.month a.day (possible (goal.at.returns-then-year-eq2041 c).Joined-day) c.if-year-eq2041.true

pub returns : goal.returns
returns c =
    let a = c.args.self in
    other-year a.year a.month a.day c.if-year.false c.if-year-eq1997.false c.if-year-eq2041.false

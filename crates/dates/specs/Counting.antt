-- An annex: the number of a day by adding the days of the years and the months before it (document 01, "Dates"). Counting gives the same (proofs/Days).
-- Assumes nothing.
use Rattle.std.specs.Prelude.{ℕ, zero, suc, ◌+◌, ◌-◌, ◌≤◌, ◌<◌}
use Rattle.dates.specs.declared.calendar.Date.{Date}
use Rattle.dates.specs.Calendar.{month_days}
use Rattle.dates.specs.Impossible.{Possible}

-- the days of a year in the months before m; before month 13, all of them
unfoldable pub days_before : ℕ → ℕ → ℕ
days_before y zero = 0
days_before y (suc m) = days_before y m + month_days y m

-- the days of the k years from 1997
unfoldable pub new_year : ℕ → ℕ
new_year zero = 0
new_year (suc k) = new_year k + days_before (1997 + k) 13

-- a date of the calendar from 1997 on
pub record Counted (d : Date) : Type 0 where
  pub possible : Possible d
  pub from : 1997 ≤ d.year

-- how many days after 1 January 1997 a date is
unfoldable pub day_number : Date → ℕ
day_number d = new_year (d.year - 1997) + days_before d.year d.month + (d.day - 1)

-- the year y holds the day n
pub record InYear (n y : ℕ) : Type 0 where
  pub from : 1997 ≤ y
  pub to : y ≤ 2041
  pub begun : new_year (y - 1997) ≤ n
  pub left : n < new_year (y - 1997) + days_before y 13

-- the month m of the year y holds the year's day n, counted from 0
pub record InMonth (y n m : ℕ) : Type 0 where
  pub from : 1 ≤ m
  pub to : m ≤ 12
  pub begun : days_before y m ≤ n
  pub left : n < days_before y m + month_days y m

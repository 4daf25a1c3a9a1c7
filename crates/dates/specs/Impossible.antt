-- When a date has no stamp, in document 01's words (number 29): `stamp` refuses these dates and no others (proofs/Exactly). Assumes nothing.
use Rattle.std.specs.Prelude.{◌≡◌, ◌≤◌, ◌<◌}
use Rattle.dates.specs.declared.calendar.Date.{Date}
use Rattle.dates.specs.Calendar.{date, month_days}

-- a date that the calendar has
pub record Possible (d : Date) : Type 0 where
  pub month_from : 1 ≤ d.month
  pub month_to : d.month ≤ 12
  pub day-from : 1 ≤ d.day
  pub day-to : d.day ≤ month_days d.year d.month

-- a date is before another: by its year, or by its month in the same year, or by its day in the same month
pub data Before (a b : Date) : Type 0 where
  by_year : a.year < b.year → Before a b
  by_month : a.year ≡ b.year → a.month < b.month → Before a b
  by_day : a.year ≡ b.year → a.month ≡ b.month → a.day < b.day → Before a b

-- when 29 is given: the date is impossible, before 2 January 1997 or after 10 November 2041
pub data Unstamped (d : Date) : Type 0 where
  impossible : (Possible d → ⊥) → Unstamped d
  too_early : Before d (date 1997 1 2) → Unstamped d
  too_late : Before (date 2041 11 10) d → Unstamped d

-- Date stamps and the calendar, said as a calendar, and what `date` and `stamp` answer (document 01, "Dates"). Assumes nothing.
use Rattle.std.specs.Prelude.{Bool, ◌&&◌, ◌||◌, not, cond, List, [], ◌∷◌, ℕ, zero, suc, ◌+◌, ◌%◌, eqb, ltb, get_or}
use Rattle.dates.specs.declared.calendar.Date.{Date}
use Rattle.dates.specs.declared.Dated.{Dated}
use Rattle.dates.specs.declared.Stamped.{Stamped}

abbrev pub date : ℕ → ℕ → ℕ → Date  -- a date, by its year, month and day
date y m d = record { year = y; month = m; day = d }

-- every fourth year is a leap year, but a hundredth one only where it is a four hundredth
unfoldable pub leap : ℕ → Bool
leap y = eqb (y % 4) 0 && (not (eqb (y % 100) 0) || eqb (y % 400) 0)

-- the days of the months 1 to 12, in a leap year or a common one; no month is numbered 0
abbrev pub months : Bool → List ℕ
months l = 0 ∷ 31 ∷ cond l 29 28 ∷ 31 ∷ 30 ∷ 31 ∷ 30 ∷ 31 ∷ 31 ∷ 30 ∷ 31 ∷ 30 ∷ 31 ∷ []

unfoldable pub month_days : ℕ → ℕ → ℕ  -- the days of a month of a year
month_days y m = get_or (months (leap y)) m 0

-- the next day: of the same month, or the 1st of the next month, or 1 January of the next year
unfoldable pub day_after : Date → Date
day_after d =
    cond (ltb d.day (month_days d.year d.month)) (date d.year d.month (d.day + 1))
    (cond (ltb d.month 12) (date d.year (d.month + 1) 1)
    (date (d.year + 1) 1 1))

unfoldable pub on_day : ℕ → Date  -- the date of day n, where day 0 is 1 January 1997
on_day zero = date 1997 1 1
on_day (suc n) = day_after (on_day n)

abbrev pub day_of : ℕ → ℕ  -- a stamp counts days from 1 January 1997, except that 0 is 10 November 2041, day 16,384
day_of zero = 16384
day_of (suc n) = suc n

abbrev pub stamp_date : ℕ → Date  -- the date of a stamp: that of its day
stamp_date s = on_day (day_of s)

abbrev pub dated : ℕ → Date → Dated  -- a number, entry 0 and a date
dated n d = record { number = n; entry = 0; year = d.year; month = d.month; day = d.day }

abbrev pub date_of : ℕ → Dated  -- the date of a stamp; 30 and zeros for a stamp above 16,383 (document 01, number 30)
date_of s = cond (ltb 16383 s) (dated 30 (date 0 0 0)) (dated 0 (stamp_date s))

abbrev pub stamped : ℕ → ℕ → Stamped  -- a number, entry 0 and a stamp
stamped n s = record { number = n; entry = 0; stamp = s }

abbrev pub same : Date → Date → Bool  -- two dates are the same
same a b = eqb a.year b.year && eqb a.month b.month && eqb a.day b.day

-- the stamp below n whose date is d; 29 and 0 where there is none (document 01, number 29)
unfoldable pub sought : Date → ℕ → Stamped
sought d zero = stamped 29 0
sought d (suc s) = cond (same (stamp_date s) d) (stamped 0 s) (sought d s)

unfoldable pub stamp_of : ℕ → ℕ → ℕ → Stamped  -- the stamp of 14 bits whose date it is
stamp_of y m d = sought (date y m d) 16384

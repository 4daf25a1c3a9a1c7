-- The date that is read off a day number: the year that its quarters lie in, and of those that are past in it the month and the day, as though
-- February had thirty days. Its number is that day again. Assumes nothing.
use mathlib.Core.Path.{◌≡◌, ap, sym, ◌∙◌}
use Prim.Native.Nat.{ℕ, ◌+◌, ◌-◌, ◌*◌, ◌/◌, ◌%◌, ◌≤◌, ◌<◌}
use native.Mathlib.Omega.{arith}
use borrow.Author.Tests.{lt-ltb, le-ltb}
use mir.Val.{bool_byte}
use Rattle.dates.specs.Calendar.{date, leap, on_day}
use Rattle.dates.specs.Counting.{days_before, new_year, Counted, day_number, InYear, InMonth}
use Rattle.dates.proofs.Order.{on-number}
use Rattle.dates.proofs.Years.{whole_days, new_year_lem, leap_fourth, year-holds}
use Rattle.dates.proofs.Thirty.{thirty, month_of, day_in, day-made, month-holds}

module _ (n y d m e : ℕ) (year : InYear n y) (day : d ≡ n - new_year (y - 1997)) (month : InMonth y d m) (made : days_before y m + e ≡ d) where
  counted : Counted (date y m (e + 1))
  counted = omega arith

  number : day_number (date y m (e + 1)) ≡ n
  unfolding day_number
  number = omega arith

  with_number : date y m (e + 1) ≡ on_day n
  with_number = sym (on-number _ counted) ∙ ap on_day number

-- where p quarters are past after k years, their whole days lead to day n, and a quarter is left over for each year up to the leap year
module _ (n k p : ℕ) (e : 4 * n + 3 ≡ 1461 * k + p) where
  parted : p ≡ 4 * (n - (365 * k + k / 4)) + (3 - k % 4)
  parted = omega arith

  days-past : p / 4 + k * 1461 / 4 ≡ n
  days-past = omega (arith, whole_days k, parted)

  left_over : p % 4 + k % 4 ≡ 3
  left_over = omega (arith, parted)

-- the year of a day, its quarters that are past, and the day of the year, as though February had thirty days
abbrev pub year_of : ℕ → ℕ
year_of n = (4 * n + 2917620) / 1461

abbrev pub past : ℕ → ℕ
past n = 4 * n + 2917620 - 1461 * year_of n

abbrev pub filled : ℕ → ℕ
filled n = thirty (leap (year_of n)) (past n / 4)

module _ (n : ℕ) (h : n ≤ 16384) where
  after : 4 * n + 3 ≡ 1461 * (year_of n - 1997) + past n
  after = omega arith

  -- the whole days of the quarters are the day of the year
  day-past : past n / 4 ≡ n - new_year (year_of n - 1997)
  day-past = omega (arith, new_year_lem (year_of n - 1997) (omega arith), days-past n (year_of n - 1997) (past n) after)

  -- in a leap year there are only whole days
  leap-past : bool_byte (leap (year_of n)) ≡ (3 - past n % 4) / 3
  leap-past = omega (arith, leap_fourth (year_of n) (omega arith) (omega arith), left_over n (year_of n - 1997) (past n) after)

  -- up to February these days themselves, and from March on those of seven quarters more
  pub up-to-february : past n < 237 → past n / 4 ≡ filled n
  up-to-february l = rw (lt-ltb (past n / 4) (59 + bool_byte (leap (year_of n))) (omega (arith, leap-past)))

  pub from-march : 237 ≤ past n → (past n + 7) / 4 ≡ filled n
  from-march l = rw (le-ltb (past n / 4) (59 + bool_byte (leap (year_of n))) (omega (arith, leap-past))) (omega (arith, leap-past))

  pub read_off : (d : ℕ) → d ≡ filled n → date (year_of n) (month_of d) (day_in d + 1) ≡ on_day n
  read_off d e =
      let within : past n / 4 < days_before (year_of n) 13 = omega (arith, day-past, year-holds n h) in
      rw e
      (with_number n (year_of n) (past n / 4) _ _ (year-holds n h) day-past (month-holds (year_of n) (past n / 4) within) (day-made (year_of n) (past n / 4) within))

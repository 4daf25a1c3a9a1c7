-- Counting and adding give the same number: the next day's number is one more, by the three ways in which a day has a next.
-- Assumes nothing.
use mathlib.Core.Path.{◌≡◌, ap, ◌∙◌}
use Prim.Native.Nat.{ℕ, zero, suc, ◌+◌, ◌-◌, ◌≤◌, ◌<◌}
use native.Mathlib.Omega.{arith}
use native.Mathlib.Decide.{dec_lt}
use borrow.Author.Tests.{lt-ltb, le-ltb}
use Rattle.dates.specs.declared.calendar.Date.{Date}
use Rattle.dates.specs.Calendar.{date, month_days, day_after, on_day}
use Rattle.dates.specs.Counting.{days_before, new_year, Counted, day_number}
use Rattle.dates.proofs.Months.{before-next, before-first, month-least}
use Rattle.dates.proofs.Years.{year-after}

-- a date that is one day after another
record Follows (d e : Date) : Type 0 where
  counted : Counted e
  later : day_number e ≡ suc (day_number d)

module _ (d : Date) (h : Counted d) where
  same-month : d.day < month_days d.year d.month → Follows d (date d.year d.month (d.day + 1))
  unfolding day_number
  same-month l = omega arith

  next-month : month_days d.year d.month ≤ d.day → d.month < 12 → Follows d (date d.year (d.month + 1) 1)
  unfolding day_number
  next-month l k =
      let n = month-least d.year (d.month + 1) (omega arith) (omega arith) in
      record { counted = omega arith; later = omega (arith, before-next d.year d.month) }

  next-year : month_days d.year d.month ≤ d.day → 12 ≤ d.month → Follows d (date (d.year + 1) 1 1)
  unfolding day_number
  next-year l k =
      let n = month-least (d.year + 1) 1 (omega arith) (omega arith) in
      let y : 1997 + (d.year - 1997) ≡ d.year = omega arith in
      let m : d.month ≡ 12 = omega arith in
      let a : new_year (d.year + 1 - 1997) ≡ new_year (d.year - 1997) + days_before d.year 13 =
      ap new_year (omega arith) ∙ year-after (d.year - 1997) ∙ ap (λ (z : ℕ). new_year (d.year - 1997) + days_before z 13) y in
      record { counted = omega arith; later = omega (arith, a, before-first (d.year + 1), before-next d.year 12, ap (days_before d.year) m, ap (month_days d.year) m) }

  follows : Follows d (day_after d)
  unfolding day_after
  follows =
      elim (dec_lt d.day (month_days d.year d.month)) [
        | yes l ↦ rw (lt-ltb _ _ l) (same-month l)
        | no l ↦
            let f : month_days d.year d.month ≤ d.day = omega arith in
            elim (dec_lt d.month 12) [
              | yes k ↦ rw (le-ltb _ _ f, lt-ltb _ _ k) (next-month f k)
              | no k ↦ rw (le-ltb _ _ f, le-ltb d.month 12 (omega arith)) (next-year f (omega arith))
            ]
      ]

-- each day counted is a date of the calendar
pub on_day_lem : (n : ℕ) → Counted (on_day n)
unfolding on_day
on_day_lem zero =
    let n = month-least 1997 1 (omega arith) (omega arith) in
    omega arith
on_day_lem (suc n) = (follows (on_day n) (on_day_lem n)).counted

first_day : day_number (date 1997 1 1) ≡ 0
unfolding day_number new_year
first_day = omega (arith, before-first 1997)

-- the date of day n has the number n
pub number_on : (n : ℕ) → day_number (on_day n) ≡ n
unfolding on_day
number_on zero = first_day
number_on (suc n) = (follows (on_day n) (on_day_lem n)).later ∙ ap suc (number_on n)

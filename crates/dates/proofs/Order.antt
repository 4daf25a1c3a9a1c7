-- A date before another has the smaller number: a month's days end before the next month begins, and a year's before the next year.
-- So a date is found again by its number. Assumes nothing.
use mathlib.Core.Path.{◌≡◌, ap, sym}
use Prim.Native.Nat.{ℕ, zero, suc, ◌+◌, ◌-◌, ◌≤◌, ◌<◌}
use native.Mathlib.Nat.{add-zero, add-suc}
use native.Mathlib.Omega.{arith}
use native.Mathlib.Decide.{dec_lt}
use Rattle.dates.specs.declared.calendar.Date.{Date}
use Rattle.dates.specs.Calendar.{date, month_days, on_day}
use Rattle.dates.specs.Impossible.{Before}
use Rattle.dates.specs.Impossible.Before.{by_year, by_month, by_day}
use Rattle.dates.specs.Counting.{days_before, new_year, Counted, day_number}
use Rattle.dates.proofs.Months.{before-next}
use Rattle.dates.proofs.Years.{year-after}
use Rattle.dates.proofs.Days.{on_day_lem, number_on}

-- later months begin later, and so do later years
months_rise : (y m k : ℕ) → days_before y m ≤ days_before y (m + k)
unfolding days_before
months_rise y m zero = rw add-zero (omega arith)
months_rise y m (suc k) = rw add-suc (omega (arith, months_rise y m k))

years_rise : (j k : ℕ) → new_year j ≤ new_year (j + k)
unfolding new_year
years_rise j zero = rw add-zero (omega arith)
years_rise j (suc k) = rw add-suc (omega (arith, years_rise j k))

-- a month ends by the time that a later one begins
month-ends : (y m n : ℕ) → m < n → days_before y m + month_days y m ≤ days_before y n
month-ends y m n h =
    let e : m + 1 + (n - (m + 1)) ≡ n = omega arith in
    omega (arith, before-next y m, months_rise y (m + 1) (n - (m + 1)), ap (days_before y) e)

year-ends : (y z : ℕ) → 1997 ≤ y → y < z → new_year (y - 1997) + days_before y 13 ≤ new_year (z - 1997)
year-ends y z h l =
    let k : ℕ = y - 1997 in
    let y-is : 1997 + k ≡ y = omega arith in
    let z-is : k + 1 + (z - (y + 1)) ≡ z - 1997 = omega arith in
    omega (arith, year-after k, ap (λ (x : ℕ). days_before x 13) y-is, years_rise (k + 1) (z - (y + 1)), ap new_year z-is)

pub rises : (a b : Date) → Counted a → Counted b → Before a b → day_number a < day_number b
unfolding day_number
rises a b h k (by_year l) =
    omega (arith, month-ends a.year a.month 13 (omega arith), year-ends a.year b.year h.from l)
rises a b h k (by_month e l) =
    omega (arith, month-ends a.year a.month b.month l, ap (λ (y : ℕ). new_year (y - 1997)) e, ap (λ (y : ℕ). days_before y b.month) e)
rises a b h k (by_day e f l) =
    omega (arith, ap (λ (y : ℕ). new_year (y - 1997)) e, ap (λ (y : ℕ). days_before y a.month) e, ap (days_before b.year) f)

-- of two dates one is before the other, or they are the same
data Compared (a b : Date) : Type 0 where
  earlier : Before a b → Compared a b
  same : a ≡ b → Compared a b
  later : Before b a → Compared a b

compare : (a b : Date) → Compared a b
compare a b =
    elim (dec_lt a.year b.year) [
      | yes l ↦ earlier (by_year l)
      | no l ↦ elim (dec_lt b.year a.year) [
        | yes k ↦ later (by_year k)
        | no k ↦ in_year (omega arith)
      ]
    ]
  where
    in-month : a.year ≡ b.year → a.month ≡ b.month → Compared a b
    in-month e f =
        elim (dec_lt a.day b.day) [
          | yes l ↦ earlier (by_day e f l)
          | no l ↦ elim (dec_lt b.day a.day) [
            | yes k ↦ later (by_day (sym e) (sym f) k)
            | no k ↦ let g : a.day ≡ b.day = omega arith in same (λ i. date (e i) (f i) (g i))
          ]
        ]

    in_year : a.year ≡ b.year → Compared a b
    in_year e =
        elim (dec_lt a.month b.month) [
          | yes l ↦ earlier (by_month e l)
          | no l ↦ elim (dec_lt b.month a.month) [
            | yes k ↦ later (by_month (sym e) k)
            | no k ↦ in-month e (omega arith)
          ]
        ]

module _ (a b : Date) (h : Counted a) (k : Counted b) where
  -- the date of the smaller number is before
  pub earlier-by : day_number a < day_number b → Before a b
  earlier-by n =
      elim (compare a b) [
        | earlier l ↦ l
        | same e ↦ absurd (omega (arith, ap day_number e))
        | later l ↦ absurd (omega (arith, rises b a k h l))
      ]

  -- a number belongs to one date
  pub one-date : day_number a ≡ day_number b → a ≡ b
  one-date n =
      elim (compare a b) [
        | earlier l ↦ absurd (omega (arith, rises a b h k l))
        | same e ↦ e
        | later l ↦ absurd (omega (arith, rises b a k h l))
      ]

-- the day of a date's number is that date
pub on-number : (d : Date) → Counted d → on_day (day_number d) ≡ d
on-number d h = one-date (on_day (day_number d)) d (on_day_lem (day_number d)) h (number_on (day_number d))

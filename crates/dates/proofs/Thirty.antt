-- A year as though February had thirty days: then the days before a month lie on a line, and so does the month of a day. What is said of the lines is computed
-- for each month and each day of a common year and of a leap year. Assumes nothing.
use mathlib.Core.Path.{◌≡◌, ◌∙◌}
use mathlib.Core.Bool.{Bool, true, false, ◌&&◌, cond}
use Prim.Native.Nat.{ℕ, ◌+◌, ◌-◌, ◌*◌, ◌/◌, ◌%◌, ◌≤◌, ◌<◌}
use native.Mathlib.Omega.{arith}
use lib.Dec.{T, eqb, eqb→eq, leb, leb→le, ltb, ltb→lt}
use lib.ListN.{get_or}
use mir.Val.{bool_byte}
use Rattle.dates.specs.Calendar.{leap, months, month_days}
use Rattle.dates.specs.Counting.{days_before, InMonth}
use Rattle.dates.proofs.Every.{from-every, both_left, both_right}
use Rattle.dates.proofs.Months.{total, before_total, in_either}

-- the days before a month: the line's up to February, and two fewer from March on, in a leap year one
pub before_early : (y m : ℕ) → m < 3 → days_before y m ≡ (489 * m - 480) / 16
before_early y m h =
    before_total y m ∙ eqb→eq _ _ (in_either 3 (λ l k. eqb (total (months l) k) ((489 * k - 480) / 16)) tt tt (leap y) m h)

pub before_late : (y m : ℕ) → 3 ≤ m → m ≤ 12 → days_before y m + 2 ≡ (489 * m - 480) / 16 + bool_byte (leap y)
before_late y m h k =
    let e : m ≡ m - 3 + 3 = omega arith in
    rw (before_total y m, e)
    (eqb→eq _ _ (in_either 10 (λ l i. eqb (total (months l) (i + 3) + 2) ((489 * (i + 3) - 480) / 16 + bool_byte l)) tt tt (leap y) (m - 3) (omega arith)))

-- the day d of a year, had February thirty days
abbrev pub thirty : Bool → ℕ → ℕ
thirty l d = cond (ltb d (59 + bool_byte l)) d (d + 2 - bool_byte l)

-- the month of such a day, and its day of the month, counted from 0
abbrev pub month_of : ℕ → ℕ
month_of d = (67 * d + 2075) / 2048

abbrev pub day_in : ℕ → ℕ
day_in d = (67 * d + 2075) % 2048 / 67

-- they are the day's own: the days before the month and it make d, it is a day of the month, and there is such a month
abbrev made : Bool → ℕ → Bool
made l d = eqb (total (months l) (month_of (thirty l d)) + day_in (thirty l d)) d

abbrev within : Bool → ℕ → Bool
within l d = ltb (day_in (thirty l d)) (get_or (months l) (month_of (thirty l d)) 0)

abbrev in_year : Bool → ℕ → Bool
in_year l d = leb (month_of (thirty l d)) 12

right : (l : Bool) (d : ℕ) → d < total (months l) 13 → T (made l d && within l d && in_year l d)
right true d h = from-every 366 (λ d. made true d && within true d && in_year true d) tt d h
right false d h = from-every 365 (λ d. made false d && within false d && in_year false d) tt d h

module _ (y d : ℕ) (h : d < days_before y 13) where
  computed : T (made (leap y) d && within (leap y) d && in_year (leap y) d)
  computed = right (leap y) d (rw (← before_total y 13) h)

  first_two : T (made (leap y) d && within (leap y) d)
  first_two = both_left (made (leap y) d && within (leap y) d) (in_year (leap y) d) computed

  -- the days before the month, and those of the month, make the day of the year
  pub day-made : days_before y (month_of (thirty (leap y) d)) + day_in (thirty (leap y) d) ≡ d
  day-made = rw (before_total y (month_of (thirty (leap y) d))) (eqb→eq _ _ (both_left (made (leap y) d) (within (leap y) d) first_two))

  day-within : day_in (thirty (leap y) d) < month_days y (month_of (thirty (leap y) d))
  unfolding month_days
  day-within = ltb→lt _ _ (both_right (made (leap y) d) (within (leap y) d) first_two)

  pub month-holds : InMonth y d (month_of (thirty (leap y) d))
  month-holds =
      record {
        from = omega arith;
        to = leb→le _ _ (both_right (made (leap y) d && within (leap y) d) (in_year (leap y) d) computed);
        begun = omega (arith, day-made);
        left = omega (arith, day-made, day-within);
      }

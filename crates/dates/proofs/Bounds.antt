-- A date has a stamp, or is impossible, too early or too late: 2 January 1997 is day 1 and 10 November 2041 day 16,384, and numbers rise with dates.
-- Assumes nothing.
use mathlib.Core.Path.{◌≡◌, refl, ap, sym, subst, ◌∙◌}
use Prim.Native.Nat.{ℕ, ◌%◌, ◌≤◌, ◌<◌}
use native.Mathlib.Omega.{arith}
use native.Mathlib.Decide.{dec_lt, dec_le}
use Rattle.dates.specs.declared.calendar.Date.{Date}
use Rattle.dates.specs.Calendar.{date, leap, month_days, on_day, day_of, stamp_date, stamped, stamp_of}
use Rattle.dates.specs.Impossible.{Possible, Unstamped}
use Rattle.dates.specs.Impossible.Before.{by_year}
use Rattle.dates.specs.Impossible.Unstamped.{impossible, too_early, too_late}
use Rattle.dates.specs.Counting.{days_before, new_year, Counted, day_number}
use Rattle.dates.proofs.Days.{on_day_lem}
use Rattle.dates.proofs.Order.{rises, earlier-by, on-number}
use Rattle.dates.proofs.Stamps.{day-from, day-to, day_stamp, number_of, one_stamp}
use Rattle.dates.proofs.Search.{found, none}

-- a date of the days 1 to 16,384
pub record Stampable (d : Date) : Type 0 where
  pub counted : Counted d
  pub from : 1 ≤ day_number d
  pub to : day_number d ≤ 16384

first-number : day_number (date 1997 1 2) ≡ 1
unfolding day_number new_year days_before month_days leap
first-number = refl

last-number : day_number (date 2041 11 10) ≡ 16384
unfolding day_number new_year days_before month_days leap
last-number = refl

first_counted : Counted (date 1997 1 2)
unfolding month_days leap
first_counted = omega arith

last-counted : Counted (date 2041 11 10)
unfolding month_days leap
last-counted = omega arith

-- ---- a date that has a stamp, and one that has none

pub takes : (d : Date) → Stampable d → stamp_of d.year d.month d.day ≡ stamped 0 (day_number d % 16384)
unfolding stamp_of
takes d h =
    let n : ℕ = day_number d in
    let e : stamp_date (n % 16384) ≡ d = ap on_day (day_stamp n h.from h.to) ∙ on-number d h.counted in
    found d 16384 (n % 16384) (omega arith) e (λ t k f. one_stamp t (n % 16384) k (omega arith) (f ∙ sym e))

-- the date of a stamp is one of those days
pub stamps : (s : ℕ) → s < 16384 → Stampable (stamp_date s)
stamps s h =
    record {
      counted = on_day_lem (day_of s);
      from = omega (arith, number_of s, day-from s);
      to = omega (arith, number_of s, day-to s h);
    }

pub never_both : (d : Date) → Unstamped d → Stampable d → ⊥
never_both d (impossible p) h = p h.counted.possible
never_both d (too_early l) h = omega (arith, rises d (date 1997 1 2) h.counted first_counted l, first-number, h.from)
never_both d (too_late l) h = omega (arith, rises (date 2041 11 10) d last-counted h.counted l, last-number, h.to)

pub refuses : (d : Date) → Unstamped d → stamp_of d.year d.month d.day ≡ stamped 29 0
unfolding stamp_of
refuses d u = none d 16384 (λ t k e. never_both d u (subst Stampable e (stamps t k)))

-- ---- each date is of one kind or the other

possible? : (d : Date) → Dec (Possible d)
possible? d =
    elim (dec_le 1 d.month) [
      | no h ↦ no (λ p. h p.month_from)
      | yes a ↦ elim (dec_le d.month 12) [
        | no h ↦ no (λ p. h p.month_to)
        | yes b ↦ elim (dec_le 1 d.day) [
          | no h ↦ no (λ p. h p.day-from)
          | yes c ↦ elim (dec_le d.day (month_days d.year d.month)) [
            | no h ↦ no (λ p. h p.day-to)
            | yes e ↦ yes (record { month_from = a; month_to = b; day-from = c; day-to = e })
          ]
        ]
      ]
    ]

early : (d : Date) → Counted d → day_number d < 1 → Unstamped d
early d h l = too_early (earlier-by d (date 1997 1 2) h first_counted (omega (arith, first-number)))

late : (d : Date) → Counted d → 16384 < day_number d → Unstamped d
late d h l = too_late (earlier-by (date 2041 11 10) d last-counted h (omega (arith, last-number)))

pub data Sorted (d : Date) : Type 0 where
  unstamped : Unstamped d → Sorted d
  stampable : Stampable d → Sorted d

by_number : (d : Date) → Counted d → Sorted d
by_number d h =
    elim (dec_lt (day_number d) 1) [
      | yes l ↦ unstamped (early d h l)
      | no l ↦ elim (dec_lt 16384 (day_number d)) [
        | yes k ↦ unstamped (late d h k)
        | no k ↦ stampable (record { counted = h; from = omega arith; to = omega arith })
      ]
    ]

pub sorted : (d : Date) → Sorted d
sorted d =
    elim (possible? d) [
      | no h ↦ unstamped (impossible h)
      | yes p ↦ elim (dec_lt d.year 1997) [
        | yes l ↦ unstamped (too_early (by_year l))
        | no l ↦ by_number d (record { possible = p; from = omega arith })
      ]
    ]

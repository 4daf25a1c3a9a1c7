-- The number of a date, by adding: the quarters of the years, seven more up to February, the days before the month, as though February had thirty, and the
-- day. Assumes nothing.
use mathlib.Core.Path.{◌≡◌}
use Prim.Native.Nat.{ℕ, ◌+◌, ◌-◌, ◌*◌, ◌/◌, ◌%◌, ◌≤◌, ◌<◌}
use native.Mathlib.Omega.{arith}
use Rattle.dates.specs.declared.calendar.Date.{Date}
use Rattle.dates.specs.Counting.{new_year, Counted, day_number}
use Rattle.dates.proofs.Years.{whole_days, new_year_lem, leap_fourth}
use Rattle.dates.proofs.Thirty.{before_early, before_late}

-- a quarter more makes a day more in a leap year alone
carried : (k : ℕ) → (k * 1461 + 1) / 4 ≡ k * 1461 / 4 + k % 4 / 3
carried k =
    let b : (k * 1461 + 1) / 4 ≡ 365 * k + (k + 1) / 4 = omega arith in
    let c : (k + 1) / 4 ≡ k / 4 + k % 4 / 3 = omega arith in
    omega (arith, whole_days k)

module _ (d : Date) (h : Counted d) (to : d.year ≤ 2041) where
  begun : new_year (d.year - 1997) ≡ (d.year - 1997) * 1461 / 4
  begun = new_year_lem (d.year - 1997) (omega arith)

  pub sum-early : d.month < 3 → (1461 * d.year + 7) / 4 + (489 * d.month - 480) / 16 + d.day ≡ day_number d + 729407
  unfolding day_number
  sum-early l = omega (arith, begun, before_early d.year d.month l)

  pub sum-late : 3 ≤ d.month → (1461 * d.year + 0) / 4 + (489 * d.month - 480) / 16 + d.day ≡ day_number d + 729407
  unfolding day_number
  sum-late l =
      let k : ℕ = d.year - 1997 in
      let q : 1461 * d.year / 4 ≡ 729404 + (k * 1461 + 1) / 4 = omega arith in
      omega (arith, begun, carried k, before_late d.year d.month l (omega arith), leap_fourth d.year (omega arith) (omega arith))

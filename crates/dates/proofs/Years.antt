-- Every fourth year from 2000 to 2040 is a leap year, so that four years have 1,461 days: computed for each year from 1997 to 2042.
-- Assumes nothing.
use mathlib.Core.Path.{◌≡◌, refl, ap, sym, ◌∙◌}
use mathlib.Core.Logic.{◌≢◌}
use Prim.Native.Nat.{ℕ, ◌+◌, ◌-◌, ◌*◌, ◌/◌, ◌%◌, ◌≤◌}
use native.Mathlib.Numerals.{add-one}
use native.Mathlib.Omega.{arith}
use lib.Dec.{T, eqb, eqb→eq}
use borrow.Author.Tests.{ne_eqb}
use mir.Val.{bool_byte}
use Rattle.dates.specs.Calendar.{leap, month_days}
use Rattle.dates.specs.Counting.{days_before, new_year, InYear}
use Rattle.dates.proofs.Every.{every, from-every}

-- the quarters of k years, in whole days
pub whole_days : (k : ℕ) → k * 1461 / 4 ≡ 365 * k + k / 4
whole_days k = omega arith

computed : T (every 46 (λ k. eqb (new_year k) (k * 1461 / 4)))
unfolding new_year days_before month_days leap
computed = tt

pub new_year_lem : (k : ℕ) → k ≤ 45 → new_year k ≡ k * 1461 / 4
new_year_lem k h = eqb→eq _ _ (from-every 46 (λ k. eqb (new_year k) (k * 1461 / 4)) computed k (omega arith))

leaps : T (every 45 (λ k. eqb (bool_byte (leap (1997 + k))) (k % 4 / 3)))
unfolding leap
leaps = tt

-- every fourth of these years is a leap year
pub leap_fourth : (y : ℕ) → 1997 ≤ y → y ≤ 2041 → bool_byte (leap y) ≡ (y - 1997) % 4 / 3
leap_fourth y h l =
    let e : 1997 + (y - 1997) ≡ y = omega arith in
    ap (λ (z : ℕ). bool_byte (leap z)) (sym e) ∙ eqb→eq _ _ (from-every 45 (λ k. eqb (bool_byte (leap (1997 + k))) (k % 4 / 3)) leaps (y - 1997) (omega arith))

-- and no other year is one
pub not_fourth : (y : ℕ) → y % 4 ≢ 0 → bool_byte (leap y) ≡ 0
unfolding leap
not_fourth y n = rw (ne_eqb (y % 4) 0 n) refl

pub year-after : (k : ℕ) → new_year (k + 1) ≡ new_year k + days_before (1997 + k) 13
unfolding new_year
year-after k = rw add-one

-- the year that a day's quarters lie in, 1,461 to a year, holds the day
pub year-holds : (n : ℕ) → n ≤ 16384 → InYear n ((4 * n + 2917620) / 1461)
year-holds n h =
    let k : ℕ = (4 * n + 3) / 1461 in
    let y : (4 * n + 2917620) / 1461 ≡ 1997 + k = omega arith in
    let e : 1997 + k - 1997 ≡ k = omega arith in
    let a : new_year (1997 + k - 1997) ≡ k * 1461 / 4 = ap new_year e ∙ new_year_lem k (omega arith) in
    let b : new_year k + days_before (1997 + k) 13 ≡ (k + 1) * 1461 / 4 = sym (year-after k) ∙ new_year_lem (k + 1) (omega arith) in
    rw y (record { from = omega arith; to = omega arith; begun = omega arith; left = omega (arith, ap new_year e) })

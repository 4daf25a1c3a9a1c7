-- A stamp's day is from 1 to 16,384 and no two stamps of 14 bits share one: 0 alone is not its own day. Nor do they share a date, for day numbers differ.
-- Assumes nothing.
use mathlib.Core.Path.{◌≡◌, refl, ap, sym, ◌∙◌}
use Prim.Native.Nat.{ℕ, zero, suc, ◌%◌, ◌≤◌, ◌<◌}
use native.Mathlib.Omega.{arith}
use native.Mathlib.Decide.{ℕ_discrete}
use borrow.Author.Tests.{lt-ltb, le-ltb}
use Rattle.dates.specs.Calendar.{date, day_of, stamp_date, dated, date_of}
use Rattle.dates.specs.Counting.{day_number}
use Rattle.dates.proofs.Days.{number_on}

pub day_itself : (s : ℕ) → 1 ≤ s → day_of s ≡ s
day_itself zero h = absurd (omega arith)
day_itself (suc s) h = refl

pub day-from : (s : ℕ) → 1 ≤ day_of s
day-from zero = omega arith
day-from (suc s) = omega arith

pub day-to : (s : ℕ) → s < 16384 → day_of s ≤ 16384
day-to zero h = omega arith
day-to (suc s) h = omega arith

-- day n is that of the stamp n, but day 16,384 that of the stamp 0
pub day_stamp : (n : ℕ) → 1 ≤ n → n ≤ 16384 → day_of (n % 16384) ≡ n
day_stamp n h k =
    elim (ℕ_discrete n 16384) [
      | yes e ↦ let z : n % 16384 ≡ 0 = omega arith in ap day_of z ∙ sym e
      | no d ↦ let z : n % 16384 ≡ n = omega arith in ap day_of z ∙ day_itself n h
    ]

one_day : (s t : ℕ) → s < 16384 → t < 16384 → day_of s ≡ day_of t → s ≡ t
one_day zero zero h k e = refl
one_day zero (suc t) h k e = absurd (omega arith)
one_day (suc s) zero h k e = absurd (omega arith)
one_day (suc s) (suc t) h k e = e

pub number_of : (s : ℕ) → day_number (stamp_date s) ≡ day_of s
number_of s = number_on (day_of s)

pub one_stamp : (s t : ℕ) → s < 16384 → t < 16384 → stamp_date s ≡ stamp_date t → s ≡ t
one_stamp s t h k e = one_day s t h k (sym (number_of s) ∙ ap day_number e ∙ number_of t)

-- ---- what `date` answers

pub day_fits : (s : ℕ) → s ≤ 16383 → day_of s ≤ 16384
day_fits s h = day-to s (omega arith)

pub taken : (s : ℕ) → s ≤ 16383 → date_of s ≡ dated 0 (stamp_date s)
taken s h = rw (le-ltb 16383 s h)

pub refused : (s : ℕ) → 16383 < s → date_of s ≡ dated 30 (date 0 0 0)
refused s h = rw (lt-ltb 16383 s h)

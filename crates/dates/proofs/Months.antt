-- The days before a month and of a month: each fact is computed once for the months of a common year and once for those of a leap year.
-- Assumes nothing.
use mathlib.Core.Path.{◌≡◌, refl, ap}
use mathlib.Core.Bool.{Bool, true, false, ◌||◌, cond}
use mathlib.Core.Logic.{◌≢◌}
use mathlib.Core.List.{List}
use Prim.Native.Nat.{ℕ, zero, suc, ◌+◌, ◌-◌, ◌/◌, ◌%◌, ◌≤◌, ◌<◌}
use native.Mathlib.Numerals.{add-one}
use native.Mathlib.Omega.{arith}
use native.Mathlib.Decide.{dec_lt}
use lib.Dec.{T, eqb, eqb→eq, leb, leb→le, ltb}
use lib.ListN.{get_or, get_or-eq_default}
use borrow.Author.Tests.{ltb-true, ltb-false}
use mir.Val.{bool_byte}
use Rattle.dates.specs.Calendar.{leap, months, month_days}
use Rattle.dates.specs.Counting.{days_before}
use Rattle.std.proofs.lemmas.Bool.{or_parts}
use Rattle.dates.proofs.Joined.{either}
use Rattle.dates.proofs.Every.{every, from-every}

-- the sum of the first m numbers of a list
abbrev pub total : List ℕ → ℕ → ℕ
total xs zero = 0
total xs (suc m) = total xs m + get_or xs m 0

pub before_total : (y m : ℕ) → days_before y m ≡ total (months (leap y)) m
unfolding days_before month_days
before_total y zero = refl
before_total y (suc m) = ap (λ (n : ℕ). n + get_or (months (leap y)) m 0) (before_total y m)

pub before-next : (y m : ℕ) → days_before y (m + 1) ≡ days_before y m + month_days y m
unfolding days_before
before-next y m = rw add-one

pub before-first : (y : ℕ) → days_before y 1 ≡ 0
unfolding days_before month_days
before-first y = refl

-- what is computed for the months of a common year and of a leap year holds in each year
pub in_either : (n : ℕ) (f : Bool → ℕ → Bool) → T (every n (f true)) → T (every n (f false)) → (l : Bool) (k : ℕ) → k < n → T (f l k)
in_either n f t u true k h = from-every n (f true) t k h
in_either n f t u false k h = from-every n (f false) u k h

-- only the numbers 1 to 12 are months
no_zeroth : (y m : ℕ) → m < 1 → month_days y m ≡ 0
unfolding month_days
no_zeroth y zero h = refl
no_zeroth y (suc m) h = absurd (omega arith)

no_thirteenth : (y m : ℕ) → 12 < m → month_days y m ≡ 0
unfolding month_days
no_thirteenth y m h = get_or-eq_default (months (leap y)) 0 h

pub no_month : (y m : ℕ) → ltb m 1 || ltb 12 m ≡ true → month_days y m ≡ 0
no_month y m = either (ltb m 1) (ltb 12 m) (λ t. no_zeroth y m (ltb-true m 1 t)) (λ t. no_thirteenth y m (ltb-true 12 m t))

pub a_month : (m : ℕ) → ltb m 1 || ltb 12 m ≡ false → (1 ≤ m) × (m ≤ 12)
a_month m e = let (a, b) = or_parts (ltb m 1) (ltb 12 m) e in omega (arith, ltb-false)

-- February has a day more in a leap year; of the others the odd ones have 31 days up to July, and from August on the even ones
pub february : (y : ℕ) → month_days y 2 ≡ 28 + bool_byte (leap y)
unfolding month_days
february y = go (leap y)
  where
    go : (l : Bool) → cond l 29 28 ≡ 28 + bool_byte l
    go true = refl
    go false = refl

pub other_month : (y m : ℕ) → 1 ≤ m → m ≤ 12 → m ≢ 2 → month_days y m ≡ 30 + (m + m / 8) % 2
unfolding month_days
other_month y m h k n =
    elim (dec_lt m 3) [
      | yes l ↦ let e : m ≡ 1 = omega (arith, n) in rw e
      | no l ↦
          let e : m ≡ m - 3 + 3 = omega arith in
          rw e (eqb→eq _ _ (in_either 10 (λ l i. eqb (get_or (months l) (i + 3) 0) (30 + (i + 3 + (i + 3) / 8) % 2)) tt tt (leap y) (m - 3) (omega arith)))
    ]

-- a month has 28 to 31 days
pub month-least : (y m : ℕ) → 1 ≤ m → m ≤ 12 → 28 ≤ month_days y m
unfolding month_days
month-least y m h k =
    let e : m ≡ suc (m - 1) = omega arith in
    rw e (leb→le _ _ (in_either 12 (λ l i. leb 28 (get_or (months l) (suc i) 0)) tt tt (leap y) (m - 1) (omega arith)))

pub month-most : (y m : ℕ) → m ≤ 12 → month_days y m ≤ 31
unfolding month_days
month-most y m h = leb→le _ _ (in_either 13 (λ l k. leb (get_or (months l) k 0) 31) tt tt (leap y) m (omega arith))

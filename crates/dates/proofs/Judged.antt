-- Whether a date has a stamp, by the tests that the code puts to it: a date that fails one is impossible, too early or too late, and one that passes all is
-- none of these. Assumes nothing.
use mathlib.Core.Path.{◌≡◌, refl, ap, sym, ◌∙◌}
use mathlib.Core.Bool.{Bool, true, false, ◌||◌, ◌&&◌, not, true≢false}
use mathlib.Core.Logic.{◌≢◌}
use Prim.Native.Nat.{ℕ, ◌+◌, ◌*◌, ◌/◌, ◌%◌, ◌≤◌, ◌<◌}
use native.Mathlib.Omega.{arith}
use native.Mathlib.Decide.{dec_lt}
use lib.Dec.{eqb, ltb, leb}
use borrow.Author.Tests.{lt-ltb, le-ltb, ltb-true, ltb-false, lt-leb, le-leb, leb-true, eqb-true, eqb-false, not-true, not-false}
use mir.Val.{bool_byte}
use Rattle.rules.proofs.ClaimLaws.{and-true}
use Rattle.dates.specs.declared.Stamped.{Stamped}
use Rattle.dates.specs.Calendar.{date, leap, month_days, stamp_of}
use Rattle.dates.specs.Impossible.{Possible, Before, Unstamped}
use Rattle.dates.specs.Impossible.Before.{by_year, by_month, by_day}
use Rattle.dates.specs.Impossible.Unstamped.{impossible, too_early, too_late}
use Rattle.std.proofs.lemmas.Bool.{or_parts}
use Rattle.dates.proofs.Joined.{either}
use Rattle.dates.proofs.Months.{no_month, a_month, month-least, month-most, february, other_month}
use Rattle.dates.proofs.Years.{leap_fourth, not_fourth}
use Rattle.dates.proofs.Bounds.{Stampable, takes, refuses, never_both, sorted}
use Rattle.dates.proofs.Bounds.Sorted.{unstamped, stampable}

module _ (y m d : ℕ) where
  -- a date has a stamp or is unstamped
  has-none : Unstamped (date y m d) → false ≡ eqb (stamp_of y m d).number 0
  has-none u = rw (refuses (date y m d) u) refl

  has_one : (Unstamped (date y m d) → ⊥) → true ≡ eqb (stamp_of y m d).number 0
  has_one n =
      elim (sorted (date y m d)) [
        | unstamped u ↦ absurd (n u)
        | stampable h ↦ rw (takes (date y m d) h) refl
      ]

  -- where it has one, it is one of the days 1 to 16,384, of a year up to 2041
  pub in-range : (stamp_of y m d).number ≡ 0 → Stampable (date y m d) × (y ≤ 2041)
  in-range e =
      elim (sorted (date y m d)) [
        | unstamped u ↦ absurd (omega (arith, ap (λ (a : Stamped). a.number) (refuses (date y m d) u)))
        | stampable h ↦ elim (dec_lt 2041 y) [
          | yes l ↦ absurd (never_both (date y m d) (too_late (by_year l)) h)
          | no l ↦ (h, omega arith)
        ]
      ]

  -- ---- its month and its day

  pub no-such-month : ltb m 1 || ltb 12 m ≡ true → false ≡ eqb (stamp_of y m d).number 0
  no-such-month e = has-none (impossible (λ p. omega (arith, no_month y m e)))

  module _ (a : ltb m 1 || ltb 12 m ≡ false) where
    -- each month has the days 1 to 28
    pub first-days : ltb d 1 || ltb 28 d ≡ false → Possible (date y m d)
    first-days e =
        let (u, v) = or_parts (ltb d 1) (ltb 28 d) e in
        let (from, to) = a_month m a in
        omega (arith, ltb-false, month-least y m from to)

    -- a month that is not February has 30 or 31
    module _ (n : m ≢ 2) where
      days : month_days y m ≡ 30 + (m + m / 8) % 2
      days = let (from, to) = a_month m a in other_month y m from to n

      pub no-such-day : ltb d 1 || ltb (30 + (m + m / 8) % 2) d ≡ true → false ≡ eqb (stamp_of y m d).number 0
      no-such-day e =
          has-none (impossible (λ p. either (ltb d 1) (ltb (30 + (m + m / 8) % 2) d) (λ t. omega (arith, ltb-true)) (λ t. omega (arith, ltb-true, days)) e))

      pub last-days : ltb d 1 || ltb (30 + (m + m / 8) % 2) d ≡ false → Possible (date y m d)
      last-days e =
          let (u, v) = or_parts (ltb d 1) (ltb (30 + (m + m / 8) % 2) d) e in
          let (from, to) = a_month m a in
          omega (arith, ltb-false, days)

  -- February has a 29th only in a fourth year, in these years in each, and no other day after the 28th
  module _ (e : m ≡ 2) where
    last : month_days y m ≡ 28 + bool_byte (leap y)
    last = ap (month_days y) e ∙ february y

    most : month_days y m ≤ 29
    most = rw last (byte (leap y))
      where
        byte : (l : Bool) → 28 + bool_byte l ≤ 29
        byte true = omega arith
        byte false = omega arith

    pub no-leap-day : ltb d 1 || ltb 28 d ≡ true → not (eqb d 29) || not (eqb (y % 4) 0) ≡ true → false ≡ eqb (stamp_of y m d).number 0
    no-leap-day g h =
        has-none
        (impossible
        (λ p.
        let late : 28 < d = either (ltb d 1) (ltb 28 d) (λ t. absurd (omega (arith, ltb-true))) (λ t. ltb-true 28 d t) g in
        either (not (eqb d 29)) (not (eqb (y % 4) 0))
        (λ t. omega (arith, most, eqb-false d 29 (not-true _ t)))
        (λ t. omega (arith, last, not_fourth y (eqb-false (y % 4) 0 (not-true _ t))))
        h))

    pub leap-day : 1997 ≤ y → y ≤ 2041 → not (eqb d 29) || not (eqb (y % 4) 0) ≡ false → Possible (date y m d)
    leap-day f l h =
        let (u, v) = or_parts (not (eqb d 29)) (not (eqb (y % 4) 0)) h in
        let r = eqb-true d 29 (not-false _ u) in
        let z = eqb-true (y % 4) 0 (not-false _ v) in
        omega (arith, last, leap_fourth y f l)

  -- ---- its year

  -- whether a possible date is too early or too late
  module _ (p : Possible (date y m d)) where
    -- 1997 from 2 January on, and the years after it
    early : 1997 ≤ y → (y ≡ 1997 → 2 < m + d) → Before (date y m d) (date 1997 1 2) → ⊥
    early f h (by_year l) = omega arith
    early f h (by_month e l) = omega arith
    early f h (by_day e g l) = omega (arith, h e)

    -- 2041 up to 10 November, and the years before it
    late : y ≤ 2041 → (y ≡ 2041 → 32 * m + d ≤ 362) → Before (date 2041 11 10) (date y m d) → ⊥
    late t h (by_year l) = omega arith
    late t h (by_month e l) = omega (arith, h (sym e))
    late t h (by_day e g l) = omega (arith, h (sym e))

    neither-end : 1997 ≤ y → y ≤ 2041 → (y ≡ 1997 → 2 < m + d) → (y ≡ 2041 → 32 * m + d ≤ 362) → Unstamped (date y m d) → ⊥
    neither-end f t h k (impossible n) = n p
    neither-end f t h k (too_early b) = early f h b
    neither-end f t h k (too_late b) = late t k b

    after-the-tenth : y ≡ 2041 → 362 < 32 * m + d → Before (date 2041 11 10) (date y m d)
    after-the-tenth e l =
        let k = month-most y m (omega arith) in
        elim (dec_lt 11 m) [
          | yes n ↦ by_month (sym e) n
          | no n ↦ by_day (sym e) (omega arith) (omega arith)
        ]

    in-the-first : y ≡ 1997 → ltb 2 (m + d) ≡ eqb (stamp_of y m d).number 0
    in-the-first e =
        elim (dec_lt 2 (m + d)) [
          | yes l ↦ rw (lt-ltb 2 (m + d) l) (has_one (neither-end (omega arith) (omega arith) (λ q. l) (λ q. omega arith)))
          | no l ↦ rw (le-ltb 2 (m + d) (omega arith)) (has-none (too_early (by_day e (omega arith) (omega arith))))
        ]

    in-the-last : y ≡ 2041 → leb (32 * m + d) 362 ≡ eqb (stamp_of y m d).number 0
    in-the-last e =
        elim (dec_lt 362 (32 * m + d)) [
          | yes l ↦ rw (lt-leb (32 * m + d) 362 l) (has-none (too_late (after-the-tenth e l)))
          | no l ↦ rw (le-leb (32 * m + d) 362 (omega arith)) (has_one (neither-end (omega arith) (omega arith) (λ q. omega arith) (λ q. omega arith)))
        ]

  module _ (p : 1997 ≤ y → y ≤ 2041 → Possible (date y m d)) where
    pub whole-year : leb 1998 y && leb y 2040 ≡ true → true ≡ eqb (stamp_of y m d).number 0
    whole-year e =
        let (u, v) = and-true (leb 1998 y) (leb y 2040) e in
        has_one (neither-end (p (omega (arith, leb-true)) (omega (arith, leb-true))) (omega (arith, leb-true)) (omega (arith, leb-true)) (λ q. omega (arith, leb-true)) (λ q. omega (arith, leb-true)))

    pub first-year : y ≡ 1997 → ltb 2 (m + d) ≡ eqb (stamp_of y m d).number 0
    first-year e = in-the-first (p (omega arith) (omega arith)) e

    pub last-year : y ≡ 2041 → leb (32 * m + d) 362 ≡ eqb (stamp_of y m d).number 0
    last-year e = in-the-last (p (omega arith) (omega arith)) e

  pub other-year : leb 1998 y && leb y 2040 ≡ false → y ≢ 1997 → y ≢ 2041 → false ≡ eqb (stamp_of y m d).number 0
  other-year e f l =
      elim (dec_lt y 1997) [
        | yes b ↦ has-none (too_early (by_year b))
        | no b ↦ elim (dec_lt 2041 y) [
          | yes k ↦ has-none (too_late (by_year k))
          | no k ↦ absurd (true≢false (sym (rw (le-leb 1998 y (omega (arith, f)), le-leb y 2040 (omega (arith, l))) refl) ∙ e))
        ]
      ]

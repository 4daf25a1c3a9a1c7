-- The numbers 30 and 29 are given exactly when document 01 says so, and 0 otherwise: a date is of one kind or the other, and never of both.
-- Assumes nothing.
use mathlib.Core.Path.{◌≡◌, refl, ap}
use mathlib.Core.Logic.{◌↔◌, ◌≢◌}
use mathlib.Core.List.{[], ◌∷◌}
use Prim.Native.Nat.{ℕ, ◌≤◌}
use native.Mathlib.Omega.{arith}
use native.Mathlib.Decide.{dec_lt}
use borrow.Author.Tests.{le-leb, lt-leb}
use Rattle.rules.specs.Claim.{◌≤?◌, rule, Answers}
use Rattle.rules.specs.First.{first}
use Rattle.rules.proofs.First.{answers-exactly}
use Rattle.dates.specs.declared.Dated as D
use Rattle.dates.specs.declared.Stamped as S
use Rattle.dates.specs.Calendar.{date, stamp_date, dated, date_of, stamped, stamp_of}
use Rattle.dates.specs.Impossible.{Unstamped}
use Rattle.dates.proofs.Stamps.{taken, refused}
use Rattle.dates.proofs.Undo.{given, date_back}
use Rattle.dates.proofs.Bounds.{takes, refuses, sorted}
use Rattle.dates.proofs.Bounds.Sorted.{unstamped, stampable}

-- the number of an answer, that of an equal one
date-number : {a b : D.Dated} → a ≡ b → a.number ≡ b.number
date-number e = ap (λ (a : D.Dated). a.number) e

stamp-number : {a b : S.Stamped} → a ≡ b → a.number ≡ b.number
stamp-number e = ap (λ (a : S.Stamped). a.number) e

-- 30 exactly for a stamp above 16,383, 0 for any other; no entry
pub date_exactly : (s n e : ℕ) → (((date_of s).number ≡ n) × ((date_of s).entry ≡ e)) ↔ Answers (rule 30 (s ≤? 16383) ∷ []) n e
unfolding first
date_exactly s n e = rw (is.0, is.1) (answers-exactly (rule 30 (s ≤? 16383) ∷ []) (omega arith, tt) n e)
  where
    is : ((date_of s).number ≡ first (rule 30 (s ≤? 16383) ∷ [])) × ((date_of s).entry ≡ 0)
    is = elim (dec_lt 16383 s) [
      | yes h ↦ rw (refused s h, lt-leb s 16383 h) (refl, refl)
      | no h ↦ rw (taken s (omega arith), le-leb s 16383 (omega arith)) (refl, refl)
    ]

-- no other refusal is given: number 30, entry 0, zeros
pub only_thirty : (s : ℕ) → (date_of s).number ≢ 0 → date_of s ≡ dated 30 (date 0 0 0)
only_thirty s n =
    elim (dec_lt 16383 s) [
      | yes h ↦ refused s h
      | no h ↦ absurd (n (date-number (taken s (omega arith))))
    ]

pub undated_zeros : (s : ℕ) → (date_of s).number ≢ 0 → ((date_of s).year ≡ 0) × ((date_of s).month ≡ 0) × ((date_of s).day ≡ 0)
undated_zeros s n =
    let q = only_thirty s n in
    (ap (λ (a : D.Dated). a.year) q, ap (λ (a : D.Dated). a.month) q, ap (λ (a : D.Dated). a.day) q)

module _ (y m d : ℕ) where
  -- 29 exactly for a date that is impossible, before 2 January 1997 or after 10 November 2041
  pub twenty-nine : ((stamp_of y m d).number ≡ 29) ↔ Unstamped (date y m d)
  twenty-nine = (
    λ e. elim (sorted (date y m d)) [
      | unstamped u ↦ u
      | stampable h ↦ absurd (omega (arith, stamp-number (takes (date y m d) h)))
    ],
    λ u. stamp-number (refuses (date y m d) u),
  )

  -- a stamp that is given has 14 bits, and the date asked for is its own
  pub stamp-dated : (stamp_of y m d).number ≡ 0 → ((stamp_of y m d).stamp ≤ 16383) × (stamp_date (stamp_of y m d).stamp ≡ date y m d)
  stamp-dated z =
      elim (sorted (date y m d)) [
        | unstamped u ↦ absurd (omega (arith, stamp-number (refuses (date y m d) u)))
        | stampable h ↦ let e = takes (date y m d) h in rw e (given _ (date y m d) (date_back y m d _ e))
      ]

  -- no other refusal is given: number 29, entry 0, zero
  pub only-twenty-nine : (stamp_of y m d).number ≢ 0 → stamp_of y m d ≡ stamped 29 0
  only-twenty-nine n =
      elim (sorted (date y m d)) [
        | unstamped u ↦ refuses (date y m d) u
        | stampable h ↦ absurd (n (stamp-number (takes (date y m d) h)))
      ]

  pub unstamped-zero : (stamp_of y m d).number ≢ 0 → ((stamp_of y m d).number ≡ 29) × ((stamp_of y m d).stamp ≡ 0)
  unstamped-zero n = let q = only-twenty-nine n in (stamp-number q, ap (λ (a : S.Stamped). a.stamp) q)

  -- no entry, whatever is given
  pub no-entry : (stamp_of y m d).entry ≡ 0
  no-entry =
      elim (sorted (date y m d)) [
        | unstamped u ↦ ap (λ (a : S.Stamped). a.entry) (refuses (date y m d) u)
        | stampable h ↦ ap (λ (a : S.Stamped). a.entry) (takes (date y m d) h)
      ]

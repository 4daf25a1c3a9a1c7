-- The two calls undo each other: a stamp gives a date exactly when that date gives the stamp. The search finds a stamp by its date, and no other has it.
-- Assumes nothing.
use mathlib.Core.Path.{◌≡◌, refl, ap, sym, ◌∙◌}
use mathlib.Core.Logic.{◌↔◌}
use Prim.Native.Nat.{ℕ, ◌≤◌}
use native.Mathlib.Omega.{arith}
use native.Mathlib.Decide.{dec_lt}
use Rattle.dates.specs.declared.calendar.Date.{Date}
use Rattle.dates.specs.declared.Dated.{Dated}
use Rattle.dates.specs.Calendar.{date, stamp_date, dated, date_of, stamped, stamp_of}
use Rattle.dates.proofs.Stamps.{one_stamp, taken, refused}
use Rattle.dates.proofs.Search.{found, sought-is}

-- the date of an answer
abbrev date_in : Dated → Date
date_in a = date a.year a.month a.day

-- a date given is a stamp's of 14 bits
pub given : (s : ℕ) (d : Date) → date_of s ≡ dated 0 d → (s ≤ 16383) × (stamp_date s ≡ d)
given s d e =
    elim (dec_lt 16383 s) [
      | yes h ↦ absurd (omega (arith, ap (λ (a : Dated). a.number) (sym (refused s h) ∙ e)))
      | no h ↦ let k : s ≤ 16383 = omega arith in (k, ap date_in (sym (taken s k) ∙ e))
    ]

-- the date of a stamp gives that stamp
pub stamp_back : (s : ℕ) → s ≤ 16383 → stamp_of (stamp_date s).year (stamp_date s).month (stamp_date s).day ≡ stamped 0 s
unfolding stamp_of
stamp_back s h = found (stamp_date s) 16384 s (omega arith) refl (λ t k e. one_stamp t s k (omega arith) e)

-- so does the date that is given of it
pub stamp-again : (s : ℕ) → s ≤ 16383 → stamp_of (date_of s).year (date_of s).month (date_of s).day ≡ stamped 0 s
stamp-again s h = ap (λ (a : Dated). stamp_of a.year a.month a.day) (taken s h) ∙ stamp_back s h

-- the stamp of a date gives that date
pub date_back : (y m d s : ℕ) → stamp_of y m d ≡ stamped 0 s → date_of s ≡ dated 0 (date y m d)
unfolding stamp_of
date_back y m d s e =
    let r = sought-is (date y m d) 16384 s e in
    taken s (omega (arith, r.0)) ∙ ap (dated 0) r.1

-- each way the other
pub undo : (s y m d : ℕ) → (date_of s ≡ dated 0 (date y m d)) ↔ (stamp_of y m d ≡ stamped 0 s)
undo s y m d = (
  λ e.
      let r = given s (date y m d) e in
      ap (λ (a : Date). stamp_of a.year a.month a.day) (sym r.1) ∙ stamp_back s r.0,
  date_back y m d s,
)

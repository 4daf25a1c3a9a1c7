-- The search among the stamps gives a stamp whose date it is, and 29 where none has it: it tries each stamp once. Assumes nothing.
use mathlib.Core.Path.{◌≡◌, refl, ap, sym, ◌∙◌}
use mathlib.Core.Bool.{Bool, true, false, ◌&&◌, and-eq-true_iff, false≢true}
use Prim.Native.Nat.{ℕ, zero, suc, ◌<◌}
use native.Mathlib.Omega.{arith}
use borrow.Author.Tests.{eqb-true, eq-eqb}
use lib.Dec.{eqb}
use Rattle.dates.specs.declared.calendar.Date.{Date}
use Rattle.dates.specs.declared.Stamped.{Stamped}
use Rattle.dates.specs.Calendar.{date, stamp_date, stamped, same, sought}

same-is : (a b : Date) → same a b ≡ true → a ≡ b
same-is a b e =
    let (f, d) = (and-eq-true_iff (eqb a.year b.year && eqb a.month b.month) (eqb a.day b.day)).0 e in
    let (y, m) = (and-eq-true_iff (eqb a.year b.year) (eqb a.month b.month)).0 f in
    λ i. date (eqb-true a.year b.year y i) (eqb-true a.month b.month m i) (eqb-true a.day b.day d i)

is_same : (a b : Date) → a ≡ b → same a b ≡ true
is_same a b e = rw (eq-eqb a.year b.year (cc), eq-eqb a.month b.month (cc), eq-eqb a.day b.day (cc))

-- the search at the stamp s: its date is d, or the search goes on below
data Tried (d : Date) (s : ℕ) : Type 0 where
  hit : stamp_date s ≡ d → sought d (suc s) ≡ stamped 0 s → Tried d s
  missed : (stamp_date s ≡ d → ⊥) → sought d (suc s) ≡ sought d s → Tried d s

tried : (d : Date) (s : ℕ) → Tried d s
unfolding sought
tried d s = go (same (stamp_date s) d) refl
  where
    go : (b : Bool) → same (stamp_date s) d ≡ b → Tried d s
    go true q = hit (same-is (stamp_date s) d q) (rw q)
    go false q = missed (λ e. false≢true (sym q ∙ is_same (stamp_date s) d e)) (rw q)

-- where one stamp alone has the date, the search gives it
pub found : (d : Date) (n s : ℕ) → s < n → stamp_date s ≡ d → ((t : ℕ) → t < n → stamp_date t ≡ d → t ≡ s) → sought d n ≡ stamped 0 s
found d zero s h e one = absurd (omega arith)
found d (suc n) s h e one =
    elim (tried d n) [
      | hit p q ↦ q ∙ ap (stamped 0) (one n (omega arith) p)
      | missed p q ↦
          let other : n ≡ s → ⊥ = λ r. p (ap stamp_date r ∙ e) in
          q ∙ found d n s (omega (arith, other)) e (λ t k. one t (omega arith))
    ]

-- where no stamp has the date, 29
pub none : (d : Date) (n : ℕ) → ((t : ℕ) → t < n → stamp_date t ≡ d → ⊥) → sought d n ≡ stamped 29 0
unfolding sought
none d zero nowhere = refl
none d (suc n) nowhere =
    elim (tried d n) [
      | hit p q ↦ absurd (nowhere n (omega arith) p)
      | missed p q ↦ q ∙ none d n (λ t k. nowhere t (omega arith))
    ]

-- what the search gives is a stamp whose date it is
pub sought-is : (d : Date) (n s : ℕ) → sought d n ≡ stamped 0 s → (s < n) × (stamp_date s ≡ d)
unfolding sought
sought-is d zero s e = absurd (omega (arith, ap (λ (a : Stamped). a.number) e))
sought-is d (suc n) s e =
    elim (tried d n) [
      | hit p q ↦ let r : n ≡ s = ap (λ (a : Stamped). a.stamp) (sym q ∙ e) in (omega arith, ap stamp_date (sym r) ∙ p)
      | missed p q ↦ let r = sought-is d n s (sym q ∙ e) in (omega (arith, r.0), r.1)
    ]

-- What a step on a record answers, case by case; and that a field set is read, the others stay, and a refused step keeps the record:
-- the number is the first rule that fails. Assumes nothing.
use mathlib.Core.Path.{◌≡◌, refl, sym, ap, ◌∙◌}
use mathlib.Core.Logic.{◌↔◌, ◌≢◌}
use mathlib.Core.Bool.{true, false}
use mathlib.Core.List.{List, [], ◌∷◌}
use Prim.Native.Nat.{ℕ, zero, suc, ◌-◌}
use native.Mathlib.Omega.{arith}
use lib.ListN.{length, get_or, set, take, replicate}
use lib.Seq.{get_or-take, length-take-le}
use Rattle.rules.specs.declared.Reason.{Reason}
use Rattle.rules.specs.Reasons.{number}
use Rattle.rules.specs.First.{holds, first}
use Rattle.rules.specs.Claim.{Rule, rule, Answers}
use Rattle.rules.proofs.ClaimLaws.{Numbered, holds_means, means-holds}
use Rattle.rules.proofs.First.{answers-exactly}
use Rattle.fields.specs.declared.Layout.{Layout}
use Rattle.fields.specs.declared.Span.{Span}
use Rattle.fields.specs.Padded.{held}
use Rattle.ticket.specs.declared.Record.{Record}
use Rattle.ticket.specs.declared.Changed.{Changed}
use Rattle.ticket.specs.declared.Value.{Value}
use Rattle.ticket.specs.declared.kinds.Kind.{Kind}
use Rattle.std.specs.Prelude.{Option, Some, None, Ok, Err}
use Rattle.ticket.specs.Kind.{row_of, form_in, row_by, count_of, listed, field_rule, set_rules}
use Rattle.ticket.specs.Checks.{slot_in}
use Rattle.ticket.specs.Ticket.{layout_of, record_rules, record_of, changed, with, set_number, value_number, next_of, set_of, value_if, value_of}
use Rattle.ticket.specs.Memory.{own, held_changed}
use Rattle.fields.proofs.Kept.{held-set}
use Rattle.ticket.proofs.Listed.{row_facts, row_is}
use Rattle.ticket.proofs.Rules.{slot_at, slot-refused}

set_numbered : (t : Record) (n v : ℕ) → Numbered (record_rules t (set_rules (layout_of t) n v))
set_numbered t n v = (omega arith, (omega arith, (omega arith, tt)))

value_numbered : (t : Record) (n : ℕ) → Numbered (record_rules t (field_rule (layout_of t) n ∷ []))
value_numbered t n = (omega arith, (omega arith, tt))

-- ---- exactly, in order, and one answer

pub set_exactly : (t : Record) (n v k e : ℕ) → ((set_number t n v ≡ k) × (0 ≡ e)) ↔ Answers (record_rules t (set_rules (layout_of t) n v)) k e
unfolding set_number
set_exactly t n v = answers-exactly (record_rules t (set_rules (layout_of t) n v)) (set_numbered t n v)

module _ (t : Record) (n : ℕ) where
  pub value-exactly : (k e : ℕ) → (((value_of t n).number ≡ k) × ((value_of t n).entry ≡ e)) ↔ Answers (record_rules t (field_rule (layout_of t) n ∷ [])) k e
  unfolding value_number
  value-exactly k e =
      let q = is (value_number t n) (get_or t.values (n - 1) 0) in
      rw (q.0, q.1) (answers-exactly (record_rules t (field_rule (layout_of t) n ∷ [])) (value_numbered t n) k e)
    where
      is : (k v : ℕ) → ((value_if k v).number ≡ k) × ((value_if k v).entry ≡ 0)
      is zero v = (refl, refl)
      is (suc k) v = (refl, refl)

  -- refused, the value is 0
  pub value-zero : (value_of t n).number ≢ 0 → (value_of t n).value ≡ 0
  value-zero h = go (value_number t n) (get_or t.values (n - 1) 0) h
    where
      go : (k v : ℕ) → (value_if k v).number ≢ 0 → (value_if k v).value ≡ 0
      go zero v h = absurd (h refl)
      go (suc k) v h = refl

-- ---- what a step does

next-kept : (k : ℕ) (t : Record) (n v : ℕ) → k ≢ 0 → next_of k t n v ≡ t
next-kept zero t n v h = absurd (h refl)
next-kept (suc k) t n v h = refl

-- a refused step gives back the record that it took
pub refused_keeps : (t : Record) (n v : ℕ) → (set_of t n v).number ≢ 0 → (set_of t n v).next ≡ t
refused_keeps t n v h = next-kept (set_number t n v) t n v h

pub taken_next : (t : Record) (n v : ℕ) → (set_of t n v).number ≡ 0 → (set_of t n v).next ≡ with t n v
taken_next t n v e = rw e

-- a field that is there gives its value
pub taken_value : (t : Record) (n : ℕ) → (value_of t n).number ≡ 0 → (value_of t n).value ≡ get_or t.values (n - 1) 0
taken_value t n z = go (value_number t n) z
  where
    go : (k : ℕ) → (value_if k (get_or t.values (n - 1) 0)).number ≡ 0 → (value_if k (get_or t.values (n - 1) 0)).value ≡ get_or t.values (n - 1) 0
    go zero z = refl
    go (suc k) z = absurd (omega arith)

-- ---- in memory, by what the checks answer

-- of a kind that is listed, the other rules decide
pub listed-first : (k : Kind) (rs : List Rule) → first (rule 22 (listed (row_of k).layout) ∷ rs) ≡ first rs
unfolding first
listed-first k rs = rw (means-holds (listed (row_of k).layout) (row_is k).some)

module _ (t : Record) (n v : ℕ) where
  -- what a step on a record of the list k answers
  abbrev steps : Layout → ℕ → Changed
  steps k m = held_changed (changed m (next_of m (record_of t.typ t.revision (take (count_of k) t.values)) n v))

  abbrev stepped : Layout → Changed
  stepped k = steps k (first (rule 22 (listed k) ∷ set_rules k n v))

  set-by : {f : Option Kind} → form_in t.typ t.revision ≡ f → stepped (row_by f).layout ≡ held_changed (set_of (own t) n v)
  unfolding set_number
  set-by e = sym (ap (λ (f : Option Kind). stepped (row_by f).layout) e)

  pub set_other : form_in t.typ t.revision ≡ None → changed 22 (record_of t.typ t.revision (replicate 25 0)) ≡ held_changed (set_of (own t) n v)
  unfolding first
  set_other e = set-by e

  module _ {k : Kind} (form : form_in t.typ t.revision ≡ Some k) where
    abbrev mine : List ℕ
    mine = take (count_of (row_of k).layout) t.values

    set_is : (m : ℕ) → m ≡ first (set_rules (row_of k).layout n v) → steps (row_of k).layout m ≡ held_changed (set_of (own t) n v)
    set_is m e = ap (steps (row_of k).layout) (e ∙ sym (listed-first k (set_rules (row_of k).layout n v))) ∙ set-by form

    pub set-refused : {r : Reason} → slot_in (row_of k).layout n v ≡ Err r
        → changed (number r) (record_of t.typ t.revision (held mine)) ≡ held_changed (set_of (own t) n v)
    set-refused {r} e =
        let s = slot-refused (row_of k).layout n v e in
        ap (λ (u : Record). held_changed (changed (number r) u)) (sym (next-kept (number r) (record_of t.typ t.revision mine) n v s.1)) ∙ set_is (number r) s.0

    pub set-done : {p : Span} → length t.values ≡ 25 → slot_in (row_of k).layout n v ≡ Ok p
        → changed 0 (record_of t.typ t.revision (set (held mine) (n - 1) v)) ≡ held_changed (set_of (own t) n v)
    set-done {p} len e =
        let s = slot_at (row_of k).layout n v e in
        let f = row_facts k in
        let l = length-take-le (count_of (row_of k).layout) t.values (omega arith) in
        ap (λ (vs : List ℕ). changed 0 (record_of t.typ t.revision vs)) (held-set mine (n - 1) v (omega arith)) ∙ set_is 0 s.0

module _ (t : Record) (n : ℕ) where
  -- the value of a record of the list k
  abbrev reads : Layout → ℕ → Value
  reads k m = value_if m (get_or (take (count_of k) t.values) (n - 1) 0)

  abbrev read : Layout → Value
  read k = reads k (first (rule 22 (listed k) ∷ field_rule k n ∷ []))

  value-by : {f : Option Kind} → form_in t.typ t.revision ≡ f → read (row_by f).layout ≡ value_of (own t) n
  unfolding value_number
  value-by e = sym (ap (λ (f : Option Kind). read (row_by f).layout) e)

  pub value-other : form_in t.typ t.revision ≡ None → value_if 22 0 ≡ value_of (own t) n
  unfolding first
  value-other e = value-by e

  module _ {k : Kind} (form : form_in t.typ t.revision ≡ Some k) where
    value-is : (m : ℕ) → m ≡ first (field_rule (row_of k).layout n ∷ []) → reads (row_of k).layout m ≡ value_of (own t) n
    value-is m e = ap (reads (row_of k).layout) (e ∙ sym (listed-first k (field_rule (row_of k).layout n ∷ []))) ∙ value-by form

    pub value-refused : holds (field_rule (row_of k).layout n).claim ≡ false → value_if 25 0 ≡ value_of (own t) n
    unfolding first
    value-refused e = value-is 25 (rw e)

    pub value-done : holds (field_rule (row_of k).layout n).claim ≡ true → value_if 0 (get_or t.values (n - 1) 0) ≡ value_of (own t) n
    unfolding first
    value-done e =
        let m = holds_means (field_rule (row_of k).layout n).claim e in
        ap (value_if 0) (sym (get_or-take (count_of (row_of k).layout) t.values (n - 1) 0 (omega arith))) ∙ value-is 0 (rw e)

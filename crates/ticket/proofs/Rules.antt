-- The numbers 22, 23, 25 and 26: what each check answers is what the rules say, by cases on the tests. Assumes nothing.
use mathlib.Core.Path.{◌≡◌, refl}
use mathlib.Core.Logic.{◌≢◌}
use mathlib.Core.Bool.{Bool, true, false, cond, ◌&&◌}
use Prim.Native.Nat.{ℕ, ◌-◌, ◌*◌, ◌≤◌}
use native.Mathlib.Omega.{arith}
use lib.Dec.{leb}
use Rattle.rules.specs.declared.Reason.{Reason}
use Rattle.rules.specs.declared.Reason.TheVariants.{NoField, TooLarge}
use Rattle.rules.specs.Reasons.{number}
use Rattle.rules.specs.First.{holds, if_kept, first}
use Rattle.rules.proofs.ClaimLaws.{or_else, holds_means, means-holds}
use Rattle.fields.specs.declared.Layout.{Layout}
use Rattle.fields.specs.declared.Span.{Span}
use Rattle.fields.specs.Lists.{list_of, nth}
use Rattle.ticket.specs.Kind.{row_of, form_in, row_by, kind_of, count_of, least_of, limit, listed, kind_rules, field_rule, set_rules}
use Rattle.ticket.specs.Checks.{form_number, extent_in, extent_number, slot_in}
use Rattle.ticket.specs.declared.kinds.Kind.{Kind}
use Rattle.std.specs.Prelude.{Option, Some, None, Result, Ok, Err}
use Rattle.ticket.proofs.Listed.{row_is}

module _ (t r b size : ℕ) where
  -- each check gives its number, 22 before 23
  pub kind-checks : first (kind_rules t r b size) ≡ or_else (form_number (form_in t r)) (extent_number (extent_in (kind_of t r).layout b size))
  unfolding first
  kind-checks = go (form_in t r)
    where
      extent : (z w : Bool) → if_kept z (if_kept w 0 23) 23 ≡ extent_number (cond (z && w) (Some (4 * b)) None)
      extent false w = refl
      extent true false = refl
      extent true true = refl

      after : Layout → ℕ
      after k = if_kept (leb (least_of k) (4 * b)) (if_kept (leb (4 * b) size) 0 23) 23

      go : (f : Option Kind) → if_kept (holds (listed (row_by f).layout)) (after (row_by f).layout) 22
          ≡ or_else (form_number f) (extent_number (extent_in (row_by f).layout b size))
      go (Some k) = rw (means-holds (listed (row_of k).layout) (row_is k).some) (extent (leb (least_of (row_of k).layout) (4 * b)) (leb (4 * b) size))
      go None = refl

  pub other-form : form_in t r ≡ None → 22 ≡ first (kind_rules t r b size)
  other-form e = rw (kind-checks, e)

  module _ {k : Kind} (form : form_in t r ≡ Some k) where
    pub wrong-extent : extent_in (row_of k).layout b size ≡ None → 23 ≡ first (kind_rules t r b size)
    wrong-extent e = rw (kind-checks, form, e)

    pub right-extent : {x : ℕ} → extent_in (row_of k).layout b size ≡ Some x → 0 ≡ first (kind_rules t r b size)
    right-extent e = rw (kind-checks, form, e)

-- ---- a field's number, then the value for it

module _ (k : Layout) (n v : ℕ) where
  abbrev slot : Bool → Bool → Result Span Reason
  slot x y = cond x (cond y (Ok (nth (list_of k) (n - 1))) (Err TooLarge)) (Err NoField)

  pub slot_at : {p : Span} → slot_in k n v ≡ Ok p → (0 ≡ first (set_rules k n v)) × (p ≡ nth (list_of k) (n - 1)) × (1 ≤ n) × (n ≤ count_of k)
  unfolding first
  slot_at {p} e = go (holds (field_rule k n).claim) (leb v (limit k n)) refl e
    where
      go : (x y : Bool) → holds (field_rule k n).claim ≡ x → slot x y ≡ Ok p
          → (0 ≡ if_kept x (if_kept y 0 26) 25) × (p ≡ nth (list_of k) (n - 1)) × (1 ≤ n) × (n ≤ count_of k)
      go true true q e = let m = holds_means (field_rule k n).claim q in (refl, cc, m.0, m.1)
      go true false q e = absurd (cc)
      go false y q e = absurd (cc)

  pub slot-refused : {r : Reason} → slot_in k n v ≡ Err r → (number r ≡ first (set_rules k n v)) × (number r ≢ 0)
  unfolding first
  slot-refused {r} e = go (holds (field_rule k n).claim) (leb v (limit k n)) e
    where
      go : (x y : Bool) → slot x y ≡ Err r → (number r ≡ if_kept x (if_kept y 0 26) 25) × (number r ≢ 0)
      go true true e = absurd (cc)
      go true false e = let q : r ≡ TooLarge = cc in rw q (refl, λ z. omega arith)
      go false y e = let q : r ≡ NoField = cc in rw q (refl, λ z. omega arith)

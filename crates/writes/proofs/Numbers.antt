-- The numbers of a write are those of its rules, and the first that is given is the answer. Assumes nothing.
use mathlib.Core.Path.{◌≡◌, refl, sym, ap, ap₂, ◌∙◌}
use mathlib.Core.Logic.{◌≢◌}
use mathlib.Core.Bool.{Bool, true, false, ◌&&◌}
use mathlib.Core.List.{List, [], ◌++◌}
use Prim.Native.Nat.{ℕ, zero, suc, ◌+◌, ◌-◌, ◌*◌, ◌≤◌, ◌<◌}
use native.Mathlib.Omega.{arith}
use borrow.Author.Tests.{le-leb, lt-leb, eqb-true}
use lib.Dec.{eqb, leb}
use lib.ListN.{take}
use Rattle.rules.specs.Answer.{says, if_done}
use Rattle.rules.specs.Claim.{Rule}
use Rattle.rules.specs.First.{if_kept, first}
use Rattle.rules.proofs.ClaimLaws.{Numbered, or_else, first-append, and-true}
use Rattle.fields.specs.declared.Span.{Span}
use Rattle.fields.specs.declared.Layout.{Layout}
use Rattle.fields.specs.Lists.{list_of, nth}
use Rattle.fields.specs.Fields.{stores, shifted, fit_rules}
use Rattle.fields.specs.Packed.{pack_number}
use Rattle.fields.proofs.Joined.{place-fits, ends_early}
use Rattle.ticket.specs.Kind.{form_in, row_of, row_by, count_of, set_rules}
use Rattle.ticket.specs.Memory.{own_of}
use Rattle.ticket.specs.Checks.{slot_in}
use Rattle.ticket.specs.declared.kinds.Kind.{Kind}
use Rattle.std.specs.Prelude.{Option, Ok, Err}
use Rattle.rules.specs.Reasons.{number}
use Rattle.rules.specs.declared.Reason.{Reason}
use Rattle.ticket.proofs.Rules.{slot_at, slot-refused}
use Rattle.image.specs.Image.{sector_at}
use Rattle.image.specs.Facts.{Present}
use Rattle.image.specs.Product.{Product, product_at}
use Rattle.steps.specs.Step.{Step, write, write_all, owner, layout_of, product_rules, other_rules, write_rules, step_rules}
use Rattle.steps.specs.Steps.{answer, next}
use Rattle.steps.proofs.Acts.{Taken, kept-taken, kept-first}
use Rattle.steps.proofs.Calls.{failed-answer}
use Rattle.writes.proofs.Stored.{record-stored}
use Rattle.verdict.specs.Products.{Known, Unknown, kind_in}
use Rattle.verdict.proofs.KindLaws.{kind-known, kind-unknown}
use Rattle.writes.specs.Same.{same_kind}

-- ---- the product's kind

module _ (p : Product) where
  -- the list of the product's kind
  layout_is : (j : ℕ) {k : Kind} → kind_in p j ≡ Known k → (row_of k).layout ≡ layout_of p
  layout_is j q = sym (ap (λ (f : Option Kind). (row_by f).layout) (kind-known p j q).1)

  -- 22 of a record of another kind
  module _ (t r : ℕ) where
    pub same_number : same_kind p t r ≡ true → first (other_rules p t r) ≡ 0
    unfolding first
    same_number = go (eqb t p.typ) (eqb r p.revision)
      where
        go : (x y : Bool) → (x && y) ≡ true → if_kept x (if_kept y 0 22) 22 ≡ 0
        go true true e = refl
        go true false e = absurd (let z : ◌≡◌ {A = ℕ} 0 1 = cc in omega arith)
        go false y e = absurd (let z : ◌≡◌ {A = ℕ} 0 1 = cc in omega arith)

    pub other-number : same_kind p t r ≡ false → first (other_rules p t r) ≡ 22
    unfolding first
    other-number = go (eqb t p.typ) (eqb r p.revision)
      where
        go : (x y : Bool) → (x && y) ≡ false → if_kept x (if_kept y 0 22) 22 ≡ 22
        go true true e = absurd (let z : ◌≡◌ {A = ℕ} 0 1 = cc in omega arith)
        go true false e = refl
        go false y e = refl

-- ---- the answer: 27 of the product, the rules os, its 22 and 23, then the rules rs

module _ (c : List ℕ) (s : Step) (p : Present c (owner s)) (os rs : List Rule) (is : step_rules (product_at c (owner s)) s ≡ write_rules (product_at c (owner s)) os rs) (many : Numbered os) where
  abbrev of : Product
  of = product_at c (owner s)

  number-is : first (step_rules of s) ≡ if_kept (leb of.marked 1) (or_else (first os) (or_else (first (product_rules of)) (first rs))) 27
  unfolding first
  number-is =
      ap first is
      ∙ ap (λ (n : ℕ). if_kept (leb of.marked 1) n 27)
      (first-append os (product_rules of ++ rs) many ∙ ap (or_else (first os)) (first-append (product_rules of) rs (omega arith)))

  pub blocked-answer : 1 < of.marked → (says 27 (owner s) ≡ answer c s) × (c ≡ next c s)
  blocked-answer h = failed-answer c s 27 p (rw (number-is, lt-leb _ _ h)) (λ y. omega arith)

  module _ (free : of.marked ≤ 1) where
    pub other-answer : first os ≡ 22 → (says 22 (owner s) ≡ answer c s) × (c ≡ next c s)
    other-answer e = failed-answer c s 22 p (rw (number-is, le-leb _ _ free, e)) (λ y. omega arith)

    module _ (same : first os ≡ 0) where
      pub kind-answer : {n : ℕ} → n ≡ first (product_rules of) → n ≢ 0 → (says n (owner s) ≡ answer c s) × (c ≡ next c s)
      kind-answer {n} e h = failed-answer c s n p (rw (number-is, le-leb _ _ free, same, ← e) (go n h)) h
        where
          go : (n : ℕ) → n ≢ 0 → or_else n (first rs) ≡ n
          go zero h = absurd (h refl)
          go (suc n) h = refl

      module _ (right : first (product_rules of) ≡ 0) where
        pub own-answer : {n : ℕ} → n ≡ first rs → n ≢ 0 → (says n (owner s) ≡ answer c s) × (c ≡ next c s)
        own-answer {n} e h = failed-answer c s n p (rw (number-is, le-leb _ _ free, same, right, ← e)) h

        pub write_taken : first rs ≡ 0 → Taken c s
        write_taken e = kept-taken c s p.obeys p.is-product (kept-first of s (rw (number-is, le-leb _ _ free, same, right, e)))

pub write-rules : (p : Product) (j n v : ℕ) → step_rules p (write j n v) ≡ write_rules p [] (set_rules (layout_of p) n v)
unfolding step_rules
write-rules p j n v = refl

pub record-rules : (p : Product) (j t r : ℕ) (vs : List ℕ) → step_rules p (write_all j t r vs) ≡ write_rules p (other_rules p t r) (fit_rules (layout_of p) vs)
unfolding step_rules
record-rules p j t r vs = refl

-- ---- a field write, case by case

module _ (c : List ℕ) (j n v : ℕ) (p : Present c j) where
  abbrev field : Step
  field = write j n v

  abbrev field_of : Product
  field_of = product_at c j

  pub field-blocked : 1 < field_of.marked → (says 27 j ≡ answer c field) × (c ≡ next c field)
  field-blocked = blocked-answer c field p [] (set_rules (layout_of field_of) n v) (write-rules field_of j n v) tt

  module _ (free : field_of.marked ≤ 1) where
    pub field-barred : {m e : ℕ} → kind_in field_of j ≡ Unknown m e → (says m e ≡ answer c field) × (c ≡ next c field)
    unfolding first
    field-barred q =
        let r = kind-unknown field_of j q in
        rw r.2 (kind-answer c field p [] (set_rules (layout_of field_of) n v) (write-rules field_of j n v) tt free refl r.0 r.1)

    module _ {k : Kind} (q : kind_in field_of j ≡ Known k) where
      same-rules : first (set_rules (row_of k).layout n v) ≡ first (set_rules (layout_of field_of) n v)
      same-rules = ap (λ (l : Layout). first (set_rules l n v)) (layout_is field_of j q)

      pub field-refused : {m : Reason} → slot_in (row_of k).layout n v ≡ Err m → (says (number m) j ≡ answer c field) × (c ≡ next c field)
      unfolding first
      field-refused e =
          let z = slot-refused (row_of k).layout n v e in
          own-answer c field p [] (set_rules (layout_of field_of) n v) (write-rules field_of j n v) tt free refl (kind-known field_of j q).0 (z.0 ∙ same-rules) z.1

      pub field-taken : {s : Span} → slot_in (row_of k).layout n v ≡ Ok s → Taken c field × (s ≡ nth (list_of (layout_of field_of)) (n - 1)) × (s.1 ≤ 56) × (s.0 + s.1 ≤ 256)
      unfolding first
      field-taken {s} e =
          let z = slot_at (row_of k).layout n v e in
          let f = place-fits (row_of k).layout (n - 1) 256 (omega (arith, z.2, z.3)) (omega (arith, ends_early (row_of k).layout)) in (
            write_taken c field p [] (set_rules (layout_of field_of) n v) (write-rules field_of j n v) tt free refl (kind-known field_of j q).0 (sym same-rules ∙ sym z.0),
            z.1 ∙ ap (λ (l : Layout). nth (list_of l) (n - 1)) (layout_is field_of j q),
            rw z.1 f.0,
            rw z.1 f.1,
          )

-- ---- a record write, case by case; of the values ws in memory it has its kind's own

module _ (c : List ℕ) (j t r : ℕ) (ws : List ℕ) (p : Present c j) where
  abbrev whole : Step
  whole = write_all j t r (own_of t r ws)

  abbrev whole_of : Product
  whole_of = product_at c j

  many-other : Numbered (other_rules whole_of t r)
  many-other = (omega arith, (omega arith, tt))

  pub record-blocked : 1 < whole_of.marked → (says 27 j ≡ answer c whole) × (c ≡ next c whole)
  record-blocked = blocked-answer c whole p (other_rules whole_of t r) (fit_rules (layout_of whole_of) (own_of t r ws)) (record-rules whole_of j t r (own_of t r ws)) many-other

  module _ (free : whole_of.marked ≤ 1) where
    pub record-other : same_kind whole_of t r ≡ false → (says 22 j ≡ answer c whole) × (c ≡ next c whole)
    record-other e =
        other-answer c whole p (other_rules whole_of t r) (fit_rules (layout_of whole_of) (own_of t r ws)) (record-rules whole_of j t r (own_of t r ws)) many-other free (other-number whole_of t r e)

    module _ (same : same_kind whole_of t r ≡ true) where
      pub record-barred : {m e : ℕ} → kind_in whole_of j ≡ Unknown m e → (says m e ≡ answer c whole) × (c ≡ next c whole)
      record-barred q =
          let z = kind-unknown whole_of j q in
          rw z.2 (kind-answer c whole p (other_rules whole_of t r) (fit_rules (layout_of whole_of) (own_of t r ws)) (record-rules whole_of j t r (own_of t r ws)) many-other free (same_number whole_of t r same) z.0 z.1)

      module _ {k : Kind} (q : kind_in whole_of j ≡ Known k) where
        -- the record's own values are those of the product's kind
        pub own_values : take (count_of (row_of k).layout) ws ≡ own_of t r ws
        own_values =
            let e = and-true (eqb t whole_of.typ) (eqb r whole_of.revision) same in
            ap (λ (f : Option Kind). take (count_of (row_by f).layout) ws)
            (sym (ap₂ form_in (eqb-true t whole_of.typ e.0) (eqb-true r whole_of.revision e.1) ∙ (kind-known whole_of j q).1))

        number_is : pack_number (row_of k).layout (take (count_of (row_of k).layout) ws) ≡ first (fit_rules (layout_of whole_of) (own_of t r ws))
        unfolding pack_number
        number_is = ap₂ (λ (l : Layout) (vs : List ℕ). first (fit_rules l vs)) (layout_is whole_of j q) own_values

        pub record-refused : {m : ℕ} → m ≡ pack_number (row_of k).layout (take (count_of (row_of k).layout) ws) → m ≢ 0 → (says m j ≡ answer c whole) × (c ≡ next c whole)
        record-refused e h =
            own-answer c whole p (other_rules whole_of t r) (fit_rules (layout_of whole_of) (own_of t r ws)) (record-rules whole_of j t r (own_of t r ws)) many-other free (same_number whole_of t r same)
            (kind-known whole_of j q).0 (e ∙ number_is) h

        pub record_taken : pack_number (row_of k).layout (take (count_of (row_of k).layout) ws) ≡ 0 → Taken c whole
        record_taken e =
            write_taken c whole p (other_rules whole_of t r) (fit_rules (layout_of whole_of) (own_of t r ws)) (record-rules whole_of j t r (own_of t r ws)) many-other free (same_number whole_of t r same)
            (kind-known whole_of j q).0 (sym number_is ∙ e)

        pub record-placed : pack_number (row_of k).layout (take (count_of (row_of k).layout) ws) ≡ 0
            → if_done (pack_number (row_of k).layout (take (count_of (row_of k).layout) ws)) (stores c (shifted (8 * sector_at c j) (list_of (row_of k).layout)) (take (count_of (row_of k).layout) ws)) c ≡ next c whole
        record-placed e =
            ap (λ (n : ℕ). if_done n (stores c (shifted (8 * sector_at c j) (list_of (row_of k).layout)) (take (count_of (row_of k).layout) ws)) c) e
            ∙ ap₂ (λ (l : Layout) (vs : List ℕ). stores c (shifted (8 * sector_at c j) (list_of l)) vs) (layout_is whole_of j q) own_values
            ∙ record-stored c j t r (own_of t r ws) (record_taken e)

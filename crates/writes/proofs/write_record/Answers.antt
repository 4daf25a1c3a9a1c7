-- `writes::write_record` meets its contract: each number is the first rule that fails, and where none does the fields are stored. Assumes nothing.
use mathlib.Core.Path.{◌≡◌, refl, sym, ◌∙◌}
use mathlib.Core.Bool.{true}
use mathlib.Core.List.{List}
use Prim.Native.Nat.{ℕ, ◌≤◌}
use native.Mathlib.Omega.{arith}
use borrow.Author.Rules.{rules}
use lib.ListN.{take}
use Rattle.std.specs.Prelude.{Result, Ok, Err}
use Rattle.std.proofs.lemmas.Result.{err_from_is_err_and}
use Rattle.rules.specs.Reasons.{said}
use Rattle.rules.specs.Refusals.{answered}
use Rattle.rules.specs.declared.Reason.{Reason}
use Rattle.ticket.specs.Kind.{row_of, count_of}
use Rattle.ticket.specs.Memory.{own_of}
use Rattle.ticket.specs.declared.kinds.Kind.{Kind}
use Rattle.steps.specs.Step.{Step, write_all}
use Rattle.steps.specs.Steps.{answer, next}
use Rattle.fields.specs.Packed.{pack_number}
use Rattle.rules.proofs.AnswerLaws.{refused-stays}
use Rattle.rules.proofs.ReasonLaws.{number-ne0}
use Rattle.image.specs.Product.{product_at}
use Rattle.image.proofs.Products.{Holds, holds}
use Rattle.steps.proofs.Calls.{turned_of, turned-answer, taken-answer, entry_in_lem}
use Rattle.verdict.specs.Products.{Known, kind_in}
use Rattle.writes.proofs.Named.{named, named-result, blocked-is, free-is}
use Rattle.writes.proofs.Numbers.{record-blocked, record-other, record-barred, record-refused, record_taken, record-placed}
use Rattle.writes.specs.Same.{same_kind}
use Rattle.writes.proofs.write_record.Goals.{Else-eq, Else-not-is_kind, In_ok-found, In_ok-kind}
use Rattle.writes.proofs.write_record.Goals as goal

-- the product
there : (c : In_ok-found) → Holds c.args.image.now c.args.entry c.in_ok-found.found
there c = holds c.in_ok-found.found c.in_ok-found.ensures.asked

-- it is not blocked
free : (c : Else-eq) → (product_at c.args.image.now c.args.entry).marked ≤ 1
unfolding product_at
free c =
    let p = c.in_ok-found.ensures.asked in
    omega (arith, free-is c.mark-mark.result c.if-eq.ensures, rw (p.0, p.1) at c.mark-mark.ensures)

-- and of the record's kind
same : (c : Else-not-is_kind) → same_kind (product_at c.args.image.now c.args.entry) c.args.typ c.args.revision ≡ true
same c =
    let p = c.in_ok-found.ensures.asked in
    sym (rw (p.0, p.1) at c.is_kind.ensures) ∙ c.if-not-is_kind.false

-- its kind
known : (c : In_ok-kind) → kind_in (product_at c.args.image.now c.args.entry) c.args.entry ≡ Known c.in_ok-kind.kind
known c =
    let p = c.in_ok-found.ensures.asked in
    sym (rw (p.0, p.1) at c.in_ok-kind.ensures)

pub returns-in_err-found : goal.returns-in_err-found
returns-in_err-found c =
    let p = err_from_is_err_and c.from_residual.result c.from_residual.ensures.1 in
    rw (p.1, p.2) (turned-answer _ _ (turned_of c.in_err-found.ensures.found refl))

pub returns-then-eq : goal.returns-then-eq
unfolding product_at
returns-then-eq c =
    let p = c.in_ok-found.ensures.asked in
    let h = there (goal.at.returns-then-eq c).In_ok-found in
    rw c.at.ensures (record-blocked _ _ _ _ _ h.finds.present (omega (arith, blocked-is c.mark-mark.result c.if-eq.ensures, rw (p.0, p.1) at c.mark-mark.ensures)))

pub returns-then-not-is_kind : goal.returns-then-not-is_kind
returns-then-not-is_kind c =
    let p = c.in_ok-found.ensures.asked in
    let h = there (goal.at.returns-then-not-is_kind c).In_ok-found in
    rw c.at-then-not-is_kind.ensures
    (record-other _ _ _ _ _ h.finds.present (free (goal.at.returns-then-not-is_kind c).Else-eq) (sym (rw (p.0, p.1) at c.is_kind.ensures) ∙ c.if-not-is_kind.true))

pub returns-in_err-kind : goal.returns-in_err-kind
returns-in_err-kind c =
    let p = err_from_is_err_and c.from_residual-in_err-kind.result c.from_residual-in_err-kind.ensures.1 in
    let a = c.in_ok-found.ensures.asked in
    let h = there (goal.at.returns-in_err-kind c).In_ok-found in
    rw (p.1, p.2)
    (record-barred _ _ _ _ _ h.finds.present (free (goal.at.returns-in_err-kind c).Else-eq) (same (goal.at.returns-in_err-kind c).Else-not-is_kind) (sym (rw (a.0, a.1) at c.in_err-kind.ensures)))

pub store_record-requires : goal.store_record-requires
store_record-requires c =
    let h = there (goal.at.store_record-requires c).In_ok-found in
    let e = entry_in_lem h.shape h.finds.present in
    record { shaped = h.shape; le = (omega (arith, e), omega (arith, e)) }

pub returns : goal.returns
returns c = rw (named-result c.args.entry (λ r f q. search rules) c.store_record.result c.map_err.ensures.cases) (go c.store_record.result c.store_record.ensures.value)
  where
    h : Holds c.args.image.now c.args.entry c.in_ok-found.found
    h = there (goal.at.returns c).In_ok-found

    k : Kind
    k = c.in_ok-kind.kind

    values : List ℕ
    values = take (count_of (row_of k).layout) c.args.values.now

    step : Step
    step = write_all c.args.entry c.args.typ c.args.revision (own_of c.args.typ c.args.revision c.args.values.now)

    go : (x : Result (Unit {0}) Reason) → said x ≡ pack_number (row_of k).layout values
        → (answered (named c.args.entry x) ≡ answer c.args.image.now step) × (c.store_record.new.image ≡ next c.args.image.now step)
    go (Ok u) e =
        let f = free (goal.at.returns c).Else-eq in
        let g = same (goal.at.returns c).Else-not-is_kind in
        let r = known (goal.at.returns c).In_ok-kind in
        (taken-answer _ _ (record_taken _ _ _ _ _ h.finds.present f g r (sym e)), c.store_record.ensures.image_after ∙ record-placed _ _ _ _ _ h.finds.present f g r (sym e))
    go (Err x) e =
        let a = record-refused _ _ _ _ _ h.finds.present (free (goal.at.returns c).Else-eq) (same (goal.at.returns c).Else-not-is_kind) (known (goal.at.returns c).In_ok-kind) e (number-ne0 x) in
        (a.0, c.store_record.ensures.image_after ∙ refused-stays _ _ _ (λ z. number-ne0 x (e ∙ z)) ∙ a.1)

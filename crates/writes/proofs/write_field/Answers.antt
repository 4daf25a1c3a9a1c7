-- `writes::write_field` meets its contract: each number is the first rule that fails, and where none does the field is stored. Assumes nothing.
use mathlib.Core.Path.{◌≡◌, refl, sym, ap, ◌∙◌}
use mathlib.Core.List.{[], ◌∷◌}
use Prim.Native.Nat.{◌*◌, ◌≤◌}
use native.Mathlib.Omega.{arith}
use borrow.Author.Rules.{rules}
use Rattle.std.proofs.lemmas.Result.{err_from_is_err_and}
use Rattle.fields.specs.declared.Span.{Span}
use Rattle.fields.specs.Fields.{stores, shifted}
use Rattle.image.specs.Image.{sector_at}
use Rattle.image.specs.Product.{product_at}
use Rattle.image.proofs.Products.{Holds, holds}
use Rattle.steps.proofs.Calls.{turned_of, turned-answer, taken-answer, entry_in_lem}
use Rattle.verdict.specs.Products.{Known, kind_in}
use Rattle.writes.proofs.Named.{named-result, named-err, named-ok, blocked-is, free-is}
use Rattle.writes.proofs.Numbers.{field-blocked, field-barred, field-refused, field-taken}
use Rattle.writes.proofs.Stored.{field_stored}
use Rattle.writes.proofs.write_field.Goals.{Else-eq, In_ok-found, In_ok-kind}
use Rattle.writes.proofs.write_field.Goals as goal

-- the product
there : (c : In_ok-found) → Holds c.args.image.now c.args.entry c.in_ok-found.found
there c = holds c.in_ok-found.found c.in_ok-found.ensures.asked

-- it is not blocked
free : (c : Else-eq) → (product_at c.args.image.now c.args.entry).marked ≤ 1
unfolding product_at
free c =
    let p = c.in_ok-found.ensures.asked in
    omega (arith, free-is c.mark.result c.if-eq.ensures, rw (p.0, p.1) at c.mark.ensures)

-- its kind
known : (c : In_ok-kind) → kind_in (product_at c.args.image.now c.args.entry) c.args.entry ≡ Known c.in_ok-kind.kind
known c =
    let p = c.in_ok-found.ensures.asked in
    sym (rw (p.0, p.1) at c.in_ok-kind.ensures)

pub returns-in_err-found : goal.returns-in_err-found
returns-in_err-found c =
    let p = err_from_is_err_and c.from_residual.result c.from_residual.ensures.1 in
    rw (p.1, p.2) (turned-answer _ _ (turned_of c.in_err-found.ensures.found refl))

pub returns-then-eq : goal.returns-then-eq
unfolding product_at
returns-then-eq c =
    let p = c.in_ok-found.ensures.asked in
    let h = there (goal.at.returns-then-eq c).In_ok-found in
    rw c.at.ensures (field-blocked _ _ _ _ h.finds.present (omega (arith, blocked-is c.mark.result c.if-eq.ensures, rw (p.0, p.1) at c.mark.ensures)))

pub returns-in_err-kind : goal.returns-in_err-kind
returns-in_err-kind c =
    let p = err_from_is_err_and c.from_residual-in_err-kind.result c.from_residual-in_err-kind.ensures.1 in
    let a = c.in_ok-found.ensures.asked in
    let h = there (goal.at.returns-in_err-kind c).In_ok-found in
    rw (p.1, p.2) (field-barred _ _ _ _ h.finds.present (free (goal.at.returns-in_err-kind c).Else-eq) (sym (rw (a.0, a.1) at c.in_err-kind.ensures)))

pub returns-in_err-place : goal.returns-in_err-place
returns-in_err-place c =
    let p = err_from_is_err_and c.from_residual-in_err-place.result c.from_residual-in_err-place.ensures.1 in
    let h = there (goal.at.returns-in_err-place c).In_ok-found in
    let n = named-err c.args.entry c.check_field.result c.in_err-place.field-0.0 (sym c.in_err-place.was ∙ named-result c.args.entry (λ r f q. search rules) c.check_field.result c.map_err.ensures.cases) in
    rw (p.1, p.2, n.1)
    (field-refused _ _ _ _ h.finds.present (free (goal.at.returns-in_err-place c).Else-eq) (known (goal.at.returns-in_err-place c).In_ok-kind) (sym c.check_field.ensures ∙ n.0))

pub store_field-requires : goal.store_field-requires
store_field-requires c =
    let h = there (goal.at.store_field-requires c).In_ok-found in
    let e = entry_in_lem h.shape h.finds.present in
    let n = named-ok c.args.entry c.check_field.result c.in_ok-place.place (sym c.in_ok-place.was ∙ named-result c.args.entry (λ r f q. search rules) c.check_field.result c.map_err.ensures.cases) in
    let t = field-taken c.args.image.now c.args.entry c.args.field c.args.value h.finds.present (free (goal.at.store_field-requires c).Else-eq) (known (goal.at.store_field-requires c).In_ok-kind) (sym c.check_field.ensures ∙ n) in
    record { shaped = h.shape; le = (omega (arith, e), omega (arith, e), t.2, t.3) }

pub returns : goal.returns
returns c =
    let h = there (goal.at.returns c).In_ok-found in
    let n = named-ok c.args.entry c.check_field.result c.in_ok-place.place (sym c.in_ok-place.was ∙ named-result c.args.entry (λ r f q. search rules) c.check_field.result c.map_err.ensures.cases) in
    let t = field-taken _ _ _ _ h.finds.present (free (goal.at.returns c).Else-eq) (known (goal.at.returns c).In_ok-kind) (sym c.check_field.ensures ∙ n) in (
      taken-answer _ _ t.0,
      c.store_field.ensures
          ∙ ap (λ (q : Span). stores c.args.image.now (shifted (8 * sector_at c.args.image.now c.args.entry) (q ∷ [])) (c.args.value ∷ [])) t.1
          ∙ field_stored _ _ _ _ t.0,
    )

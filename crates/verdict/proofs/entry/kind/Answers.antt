-- `entry::kind` meets its contract: 22 and 23 by what the product says, else its kind. Assumes nothing.
use mathlib.Core.Path.{◌≡◌, sym, ap₂, ◌∙◌}
use native.Mathlib.Omega.{arith}
use Rattle.std.specs.Prelude.{Some}
use Rattle.bits.proofs.Laws.{field_below}
use Rattle.ticket.specs.Kind.{form_in, row_of}
use Rattle.ticket.specs.Checks.{extent_in}
use Rattle.image.specs.Product.{Product, product_at}
use Rattle.verdict.proofs.KindLaws.{kind-other, kind-wrong, kind-right}
use Rattle.verdict.proofs.entry.kind.Goals.{After-check_extent, After-check_form, In-Some, Start}
use Rattle.verdict.proofs.entry.kind.Goals as goal

-- the product
abbrev of : Start → Product
of c = product_at c.args.found.now.card.image.now c.args.found.now.entry

-- what the two checks answered
formed : (c : After-check_form) → c.check_form.result ≡ form_in (product_at c.args.found.now.card.image.now c.args.found.now.entry).typ (product_at c.args.found.now.card.image.now c.args.found.now.entry).revision
unfolding product_at
formed c = c.check_form.ensures ∙ ap₂ form_in c.entry_field-typ.ensures c.header_field-revision.ensures

form : (c : In-Some) → form_in (product_at c.args.found.now.card.image.now c.args.found.now.entry).typ (product_at c.args.found.now.card.image.now c.args.found.now.entry).revision ≡ Some c.in-Some.kind
unfolding product_at
form c = sym (c.check_form.ensures ∙ ap₂ form_in c.entry_field-typ.ensures c.header_field-revision.ensures) ∙ c.in-Some.is

ended : (c : After-check_extent) → c.check_extent.result ≡ extent_in (row_of c.in-Some.kind).layout (product_at c.args.found.now.card.image.now c.args.found.now.entry).blocks (product_at c.args.found.now.card.image.now c.args.found.now.entry).size
unfolding product_at
ended c = c.check_extent.ensures ∙ ap₂ (extent_in (row_of c.in-Some.kind).layout) c.header_field-blocks.ensures c.size.ensures

pub returns-in_default : goal.returns-in_default
returns-in_default c =
    let at = goal.at.returns-in_default c in
    rw c.at.ensures (kind-other (of at.Start) c.args.found.now.entry (sym (formed at.After-check_form) ∙ c.in_default.is))

pub check_extent-requires : goal.check_extent-requires
check_extent-requires c = rw c.header_field-blocks.ensures (field_below _ 0 6 16 (omega arith))

pub returns-in_default-check_extent : goal.returns-in_default-check_extent
returns-in_default-check_extent c =
    let at = goal.at.returns-in_default-check_extent c in
    rw c.at-in_default-check_extent.ensures (kind-wrong _ c.args.found.now.entry (form at.In-Some) (sym (ended at.After-check_extent) ∙ c.in_default-check_extent.is))

pub returns : goal.returns
returns c =
    let at = goal.at.returns c in
    kind-right _ c.args.found.now.entry (form at.In-Some) (sym (ended at.After-check_extent) ∙ c.in-Some-check_extent.is)

-- `marks::mark` meets its contract: each test is a rule of the step, in their order; a mark that is there already changes nothing, and where no rule fails
-- the element is stored. Assumes nothing.
use mathlib.Core.Path.{◌≡◌, refl, sym, ◌∙◌}
use mathlib.Core.Logic.{⊎_elim}
use native.Mathlib.Omega.{arith}
use Rattle.std.proofs.lemmas.Result.{err_from_is_err_and}
use Rattle.image.specs.Image.{element}
use Rattle.image.proofs.Products.{Holds, holds}
use Rattle.steps.proofs.Calls.{turned_of, failed-answer, turned-answer, taken-answer}
use Rattle.steps.proofs.Written.{mark-again}
use Rattle.marks.proofs.Stored.{below_one, above-two, same-mark, blocked-mark, low-mark, mark-taken, mark-stored}
use Rattle.marks.proofs.mark.Goals.{In_ok-found, After-element-link}
use Rattle.marks.proofs.mark.Goals as goal

-- the product; and its last sector's element
there : (c : In_ok-found) → Holds c.args.image.now c.args.entry c.in_ok-found.found
there c = holds c.in_ok-found.found c.in_ok-found.ensures.asked

link : (c : After-element-link) → c.element-link.result ≡ element c.args.image.now c.in_ok-found.found.chain.last
link c = rw c.in_ok-found.ensures.asked.0 at c.element-link.ensures

pub returns-in_err-found : goal.returns-in_err-found
returns-in_err-found c =
    let p = err_from_is_err_and c.from_residual.result c.from_residual.ensures.1 in
    rw (p.1, p.2) (turned-answer _ _ (turned_of c.in_err-found.ensures.found refl))

pub returns-then-mark-lt1 : goal.returns-then-mark-lt1
returns-then-mark-lt1 c =
    let f = (there (goal.at.returns-then-mark-lt1 c).In_ok-found).finds in
    rw c.at.ensures (⊎_elim
    (λ l. failed-answer _ _ 28 f.present (below_one f _ l) (λ e. omega arith))
    (λ l. failed-answer _ _ 28 f.present (above-two f _ l.0 l.1) (λ e. omega arith))
    c.then-mark-lt1.either)

pub element-link-requires : goal.element-link-requires
element-link-requires c = rw c.in_ok-found.ensures.asked.0 (there (goal.at.element-link-requires c).In_ok-found).finds.sector

pub returns-then-link-shape : goal.returns-then-link-shape
returns-then-link-shape c =
    let f = (there (goal.at.returns-then-link-shape c).In_ok-found).finds in
    let s = (there (goal.at.returns-then-link-shape c).In_ok-found).shape in
    let h = c.if-mark-lt1.false in
    let u = c.if-mark-gt2.false in
    let m = same-mark f _ _ h u (link (goal.at.returns-then-link-shape c).After-element-link) (rw s.sectors_is at c.if-link-shape.true) in
    (taken-answer _ _ (mark-taken f _ h u (omega (arith, m))), sym (mark-again _ _ _ (λ i. (c.slice_known-1.given i).fits) m))

pub returns-then-link-shape-2 : goal.returns-then-link-shape-2
returns-then-link-shape-2 c =
    let f = (there (goal.at.returns-then-link-shape-2 c).In_ok-found).finds in
    let s = (there (goal.at.returns-then-link-shape-2 c).In_ok-found).shape in
    let h = c.if-mark-lt1.false in
    let u = c.if-mark-gt2.false in
    rw c.at-then-link-shape-2.ensures
    (failed-answer _ _ 27 f.present
    (blocked-mark f _ _ h u (link (goal.at.returns-then-link-shape-2 c).After-element-link) (rw s.sectors_is at c.if-link-shape.false) (rw s.sectors_is at c.if-link-shape-2.true))
    (λ e. omega arith))

pub store_mark-requires : goal.store_mark-requires
store_mark-requires c =
    let s = (there (goal.at.store_mark-requires c).In_ok-found).shape in
    record { shaped = s; sector = rw s.sectors_is (there (goal.at.store_mark-requires c).In_ok-found).finds.sector; le_mark = (c.if-mark-lt1.false, c.if-mark-gt2.false) }

pub returns : goal.returns
returns c =
    let f = (there (goal.at.returns c).In_ok-found).finds in
    let s = (there (goal.at.returns c).In_ok-found).shape in
    let h = c.if-mark-lt1.false in
    let u = c.if-mark-gt2.false in
    let t = mark-taken f _ h u (low-mark f _ _ h u (link (goal.at.returns c).After-element-link) (rw s.sectors_is at c.if-link-shape-2.false)) in
    (taken-answer _ _ t, c.store_mark.ensures ∙ mark-stored f _ t)

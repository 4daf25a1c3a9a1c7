-- `entry::read_entry` meets its contract: the entry stands where the shape says. Assumes nothing.
use mathlib.Core.Path.{sym}
use mathlib.Core.List.{[]}
use native.Mathlib.Omega.{arith}
use Prim.Native.Nat.{◌+◌, ◌≤◌}
use lib.ListN.{length}
use Rattle.std.proofs.lemmas.Result.{err_from_is_err_and}
use Rattle.rules.specs.First.{first}
use Rattle.image.proofs.Products.{Holds, holds}
use Rattle.image.proofs.Shapes.{entry-is}
use Rattle.image.proofs.Places.{from_is, from-length, entry_in_lem}
use Rattle.reads.specs.Entry.{read_entry}
use Rattle.image.proofs.Asked.{asked-there}
use Rattle.reads.proofs.Given.{values-refused}
use Rattle.reads.proofs.Known.{found-not}
use borrow.Author.Rules.{rules}
use Rattle.readcard.proofs.entry.read_entry.Goals.{After-entry_at-at, In_ok-found}
use Rattle.readcard.proofs.entry.read_entry.Goals as goal

-- the product
there : (c : In_ok-found) → Holds c.args.image.now c.args.entry c.in_ok-found.found
there c = holds c.in_ok-found.found c.in_ok-found.ensures.asked

-- the five bytes of the entry lie within the image
within : (c : After-entry_at-at) → c.entry_at-at.result + 5 ≤ length c.args.image.now
within c =
    let h = holds c.in_ok-found.found c.in_ok-found.ensures.asked in
    let v = h.finds.present.is-product in
    omega (arith, c.entry_at-at.ensures, entry_in_lem h.shape c.args.entry (v.low, omega (arith, v.high, h.shape.entries-is)))

pub entry_at-at-requires : goal.entry_at-at-requires
entry_at-at-requires c =
    let h = there (goal.at.entry_at-at-requires c).In_ok-found in
    let v = h.finds.present.is-product in
    let b = h.shape.in_bounds in
    (omega (arith, v.low), omega (arith, v.high))

pub slice_bounds-unpacked-count : goal.slice_bounds-unpacked-count
slice_bounds-unpacked-count c = omega (arith, within c)

pub slice_bounds-unpacked-start : goal.slice_bounds-unpacked-start
slice_bounds-unpacked-start c = omega (arith, within c)

pub unpacked-requires : goal.unpacked-requires
unpacked-requires c = (search rules, simp from-length (omega (arith, within (goal.at.unpacked-requires c).After-entry_at-at)))

pub returns : goal.returns
unfolding read_entry first
returns c =
    let h = there (goal.at.returns c).In_ok-found in
    rw (asked-there _ _ _ h.finds.accepted h.finds.is_there, c.unpacked.ensures, from_is, c.entry_at-at.ensures, entry-is h.shape)

pub returns-in_err-found : goal.returns-in_err-found
unfolding read_entry
returns-in_err-found c =
    let p = err_from_is_err_and c.from_residual.result c.from_residual.ensures.1 in
    let s = found-not _ _ (sym c.in_err-found.ensures.found) (λ p. []) in
    rw (p.1, p.2, s.number_is, s.entry-is, values-refused _ 7 _ s.some)

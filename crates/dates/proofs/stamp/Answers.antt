-- `stamp` meets its contract: a date that has a stamp has that of its number. Assumes nothing.
use mathlib.Core.Path.{◌≡◌, sym, ◌∙◌}
use borrow.Author.Tests.{eqb-true, eqb-false}
use Rattle.dates.specs.Calendar.{date, stamp_of}
use Rattle.dates.proofs.Bounds.{takes}
use Rattle.dates.proofs.Judged.{in-range}
use Rattle.dates.proofs.Exactly.{only-twenty-nine}
use Rattle.dates.proofs.stamp.Goals as goal
use Rattle.dates.proofs.stamp.Goals.{Then-has_stamp}

number : (c : Then-has_stamp) → let a = c.args in (stamp_of a.year a.month a.day).number ≡ 0
number c = eqb-true _ 0 (sym c.has_stamp.ensures ∙ c.if-has_stamp.true)

pub day_number-requires : goal.day_number-requires
day_number-requires c =
    let a = c.args in
    let h = in-range a.year a.month a.day (number c) in
    record { counted = h.0.counted; year_bound = h.1 }

pub returns-then-has_stamp : goal.returns-then-has_stamp
returns-then-has_stamp c =
    let a = c.args in
    let h = in-range a.year a.month a.day (number (goal.at.returns-then-has_stamp c).Then-has_stamp) in
    rw c.day_number.ensures (sym (takes (date a.year a.month a.day) h.0))

pub returns-else-has_stamp : goal.returns-else-has_stamp
returns-else-has_stamp c =
    let a = c.args in
    sym (only-twenty-nine a.year a.month a.day (eqb-false _ 0 (sym c.has_stamp.ensures ∙ c.if-has_stamp.false)))

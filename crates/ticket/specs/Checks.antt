-- An annex: the checks 22, 23, and 25 with 26: what each answers, and document 01's number of each answer. Assumes nothing.
use Rattle.std.specs.Prelude.{ℕ, ◌-◌, ◌*◌, cond, ◌&&◌, leb, Option, Some, None, Result, Ok, Err}
use Rattle.fields.specs.declared.Layout.{Layout}
use Rattle.fields.specs.Lists.{list_of, nth}
use Rattle.fields.specs.declared.Span.{Span}
use Rattle.rules.specs.declared.Reason.{Reason}
use Rattle.rules.specs.declared.Reason.TheVariants.{NoField, TooLarge}
use Rattle.rules.specs.First.{holds}
use Rattle.ticket.specs.declared.kinds.Kind.{Kind}
use Rattle.ticket.specs.Kind.{least_of, limit, field_rule}

-- 22: a TYP and revision not listed
abbrev pub form_number : Option Kind → ℕ
form_number (Some k) = 0
form_number None = 22

-- 23: 4 × IPELength under the kind's least, or beyond the product
abbrev pub extent_in : Layout → ℕ → ℕ → Option ℕ
extent_in k b size = cond (leb (least_of k) (4 * b) && leb (4 * b) size) (Some (4 * b)) None

abbrev pub extent_number : Option ℕ → ℕ
extent_number (Some x) = 0
extent_number None = 23

-- 25, then 26; else the place of field n
abbrev pub slot_in : Layout → ℕ → ℕ → Result Span Reason
slot_in k n v = cond (holds (field_rule k n).claim) (cond (leb v (limit k n)) (Ok (nth (list_of k) (n - 1))) (Err TooLarge)) (Err NoField)

-- An annex: what a check answers, by the verdict. Assumes nothing.
use Rattle.std.specs.Prelude.{List, ℕ, zero, suc, Result, Ok, Err}
use Rattle.chains.specs.Psi.{Ψ}
use Rattle.image.specs.Image.{copy, dataset, B, S, e#, SCTL, directory_at, table_at}
use Rattle.image.specs.Verdict.{verdict}
use Rattle.image.specs.declared.Shape.{Shape}
use Rattle.image.specs.Answer.{Checked, Accepted, Refused}
use Rattle.rules.specs.Reasons.{number}
use Rattle.rules.specs.declared.Refusal.{Refusal}

-- the numbers by which everything in an image is found
abbrev pub shape_of : List ℕ → Shape
shape_of c = record { copy = copy c; dataset = dataset c; size = B c; sectors = S c; entries = e# c; bytes = SCTL c; psi = Ψ (S c); directory = directory_at c; table = table_at c }

-- the answer with the number n and the entry e, of an image of shape g
abbrev pub checked_by : ℕ → ℕ → Shape → Checked
checked_by zero e g = Accepted g
checked_by (suc n) e g = Refused (suc n) e

-- what a check answers
unfoldable pub check_of : List ℕ → Checked
check_of c = checked_by (verdict c).number (verdict c).entry (shape_of c)

-- what the code's answer says
abbrev pub checked : Result Shape Refusal → Checked
checked (Ok g) = Accepted g
checked (Err r) = Refused (number r.reason) r.entry

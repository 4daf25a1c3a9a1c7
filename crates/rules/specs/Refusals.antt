-- An annex: a refusal that names no entry; and the answer with the number and the entry of a refusal, 0 and 0 where there is none. Assumes nothing.
use Rattle.std.specs.Prelude.{ℕ, Result, Ok, Err}
use Rattle.rules.specs.declared.Answer.{Answer}
use Rattle.rules.specs.declared.Reason.{Reason}
use Rattle.rules.specs.declared.Refusal.{Refusal}
use Rattle.rules.specs.Reasons.{number}

abbrev pub at_none : Reason → Refusal
at_none r = record { reason = r; entry = 0 }

abbrev pub answered : {A : Type 0} → Result A Refusal → Answer
answered (Ok a) = record { number = 0; entry = 0 }
answered (Err r) = record { number = number r.reason; entry = r.entry }

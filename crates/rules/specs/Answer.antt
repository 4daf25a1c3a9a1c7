-- An annex: an answer by its number and entry, and a lent buffer after it. Assumes nothing.
use Rattle.std.specs.Prelude.{ℕ, zero, suc, List}
use Rattle.rules.specs.declared.Answer.{Answer}

-- the number n, naming the entry e
abbrev pub says : ℕ → ℕ → Answer
says n e = record { number = n; entry = e }

-- the bytes of a lent buffer then: new ones where the number is 0, else those that were there
abbrev pub if_done : ℕ → List ℕ → List ℕ → List ℕ
if_done zero new old = new
if_done (suc n) new old = old

-- An annex: values as the code holds them: as many as the longest list of a kind of ticket has, with nothing after the list's own. Assumes nothing.
use Rattle.std.specs.Prelude.{ℕ, ◌-◌, Bool, List, ◌++◌, leb, length, get_or, replicate}
use Rattle.rules.specs.First.{all}
use Rattle.fields.specs.declared.Span.{Span}
use Rattle.fields.specs.Lists.{nth}
use Rattle.fields.specs.Fields.{limit_of}

abbrev pub most : ℕ  -- the fields of the longest list, and the bytes that they take
most = 25

abbrev pub most_bytes : ℕ
most_bytes = 27

abbrev pub held : List ℕ → List ℕ  -- zeros after the last value
held vs = vs ++ replicate (most - length vs) 0

-- the test of the first i values, one by one
abbrev pub fit_to : List Span → List ℕ → ℕ → Bool
fit_to ps vs i = all i λ j. leb (get_or vs j 0) (limit_of (nth ps j))

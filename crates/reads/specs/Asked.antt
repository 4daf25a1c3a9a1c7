-- An annex: what a refusal holds: zeros (document 01, "Numbers given back"); and a list laid over another. Assumes nothing.
use Rattle.std.specs.Prelude.{ℕ, zero, suc, List, ◌++◌, length, drop, replicate}
use Rattle.rules.specs.Answer.{if_done}

-- "refusals hold 0 in every other value": a number, and a list of k values, of a call whose number is n
abbrev pub or_zero : ℕ → ℕ → ℕ
or_zero zero v = v
or_zero (suc n) v = 0

abbrev pub or_zeros : ℕ → ℕ → List ℕ → List ℕ
or_zeros n k vs = if_done n vs (replicate k 0)

-- b with its first elements replaced by those of l
abbrev pub over : List ℕ → List ℕ → List ℕ
over l b = l ++ drop (length l) b

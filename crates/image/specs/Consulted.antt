-- An annex: how many elements of the chain table a check consults, once the rules 1 to 9 and 12 are kept. No contract cites it. Assumes nothing.
use Rattle.std.specs.Prelude.{Bool, not, ◌||◌, List, ℕ, eqb}
use Rattle.chains.specs.Consulted as passes
use Rattle.rules.specs.Lowest.{lowest}
use Rattle.image.specs.Image.{S, e#, element}
use Rattle.image.specs.Verdict.{is_product, broken_at, shares_at}

-- the first pass stops where a chain is broken, or shares a sector with that of a lower entry
abbrev pub stops : List ℕ → Bool
stops c = not (eqb (lowest (e# c) (broken_at c)) 0) || not (eqb (lowest (e# c) (shares_at c)) 0)

unfoldable pub consulted : List ℕ → ℕ
consulted c = passes.consulted (is_product c) (element c) (S c) (e# c) (stops c)

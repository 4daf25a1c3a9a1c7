-- An annex: the verdict as the machine finds it. That it is what `Says` says is proved in Exact. Assumes nothing.
use Rattle.std.specs.Prelude.{ℕ, zero, suc, ◌*◌, Bool, ◌&&◌, not, List, eqb, leb}
use Rattle.bits.specs.Bits.{field}
use Rattle.chains.specs.Products as products
use Rattle.rules.specs.declared.Answer.{Answer}
use Rattle.rules.specs.First.{first}
use Rattle.rules.specs.Lowest.{lowest}
use Rattle.image.specs.Image.{S, e#, entry_at, element}
use Rattle.image.specs.Rules.{rules}

-- entry j is there and not empty: not all of its forty bits are zero
unfoldable pub is_product : List ℕ → ℕ → Bool
is_product c j = leb 1 j && leb j (e# c) && not (eqb (field c (8 * entry_at c j) 40) 0)

-- 10: entry j is a product and its chain is broken
unfoldable pub broken_at : List ℕ → ℕ → Bool
broken_at c j = products.broken_at (is_product c) (element c) (S c) j

-- 11: entry k is a product, and a lower one has a sector in common with it
unfoldable pub shares_at : List ℕ → ℕ → Bool
shares_at c k = products.shares_at (is_product c) (element c) (S c) k

abbrev pub judged : ℕ → ℕ → ℕ → Answer
judged (suc n) j k = record { number = suc n; entry = 0 }
judged zero (suc j) k = record { number = 10; entry = suc j }
judged zero zero (suc k) = record { number = 11; entry = suc k }
judged zero zero zero = record { number = 0; entry = 0 }

-- the first of the rules 1 to 9 and 12 that fails; then the lowest broken; then the lowest that shares with a lower one
unfoldable pub verdict : List ℕ → Answer
verdict c = judged (first (rules c)) (lowest (e# c) (broken_at c)) (lowest (e# c) (shares_at c))

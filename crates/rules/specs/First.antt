-- An annex: a claim as a test that a machine runs, and the number of the first rule that is not kept. That they are what `Means`, `Kept` and `Fails`
-- say is proved once, in ClaimLaws. Assumes nothing.
use Rattle.std.specs.Prelude.{Bool, true, false, ◌&&◌, List, [], ◌∷◌, ℕ, zero, suc, eqb, leb}
use Rattle.rules.specs.Claim.{Claim, ◌≡?◌, ◌≤?◌, ◌and◌, every, Rule}

-- whether the test passes at each of 0, .., n - 1
unfoldable pub all : ℕ → (ℕ → Bool) → Bool
all zero t = true
all (suc n) t = all n t && t n

-- whether a claim is true
abbrev pub holds : Claim → Bool
holds (a ≡? b) = eqb a b
holds (a ≤? b) = leb a b
holds (p and q) = holds p && holds q
holds (every n p) = all n (λ i. holds (p i))

-- a rule that is kept leaves the word to the rest; one that is not gives its number
abbrev pub if_kept : Bool → ℕ → ℕ → ℕ
if_kept true rest n = rest
if_kept false rest n = n

-- the number of the first rule that is not kept, 0 where all are
unfoldable pub first : List Rule → ℕ
first [] = 0
first (r ∷ rs) = let rest : ℕ = first rs in if_kept (holds r.claim) rest r.number

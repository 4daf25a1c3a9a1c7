-- An annex: a list of rules as the rows of a table, where the rules of one number stand together. Assumes nothing.
use Rattle.std.specs.Prelude.{cond, List, [], ◌∷◌, ℕ, eqb}
use Rattle.rules.specs.Claim.{Rule, Kept}

-- the rules of the rows before row n: those that stand before the first with the number n
abbrev pub rows_before : ℕ → List Rule → List Rule
rows_before n [] = []
rows_before n (r ∷ rs) = cond (eqb r.number n) [] (r ∷ rows_before n rs)

-- the rules of row n: those with the number n
abbrev pub row_of : ℕ → List Rule → List Rule
row_of n [] = []
row_of n (r ∷ rs) = cond (eqb r.number n) (r ∷ row_of n rs) (row_of n rs)

-- row n says so, and every row before it holds
abbrev pub FailsRow : ℕ → List Rule → Type 0
FailsRow n rs = Kept (rows_before n rs) × (Kept (row_of n rs) → ⊥)

-- An annex: a table with one element replaced: what a mark does. Assumes nothing.
use Rattle.std.specs.Prelude.{ℕ, cond, eqb}

-- the elements f, with x for the element of sector l
unfoldable pub replaced : (ℕ → ℕ) → ℕ → ℕ → ℕ → ℕ
replaced f l x i = cond (eqb i l) x (f i)

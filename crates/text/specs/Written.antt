-- A buffer into which text is written. Assumes nothing.
use Rattle.std.specs.Prelude.{ℕ, ◌+◌, Bool, cond, List, ◌++◌, length, take, drop, leb}

-- whether the text t fits in the buffer l from byte p on
abbrev pub fits : List ℕ → ℕ → List ℕ → Bool
fits l p t = leb (p + length t) (length l)

-- the buffer with the text, where it fits, and as it was where it does not
unfoldable pub written : List ℕ → ℕ → List ℕ → List ℕ
written l p t = cond (fits l p t) (take p l ++ (t ++ drop (p + length t) l)) l

-- where the next text goes
unfoldable pub next : List ℕ → ℕ → List ℕ → ℕ
next l p t = cond (fits l p t) (p + length t) p

-- The first place of a byte, and a part of a list of bytes. Assumes nothing.
use Rattle.std.specs.Prelude.{ℕ, suc, ◌-◌, Bool, true, false, List, [], ◌∷◌, take, drop, eqb}

-- the place after one more byte: 0 where that byte is the one looked for
unfoldable pub index_after : Bool → ℕ → ℕ
index_after true k = 0
index_after false k = suc k

-- the first place of the byte b, and the length where there is none
unfoldable pub index_of : ℕ → List ℕ → ℕ
index_of b [] = 0
index_of b (x ∷ l) = index_after (eqb x b) (index_of b l)

-- the bytes from place p up to place e
unfoldable pub slice : ℕ → ℕ → List ℕ → List ℕ
slice p e l = take (e - p) (drop p l)

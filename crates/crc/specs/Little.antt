-- An annex: bytes as one number, the lowest first. Assumes nothing.
use Rattle.std.specs.Prelude.{ℕ, ◌+◌, ◌*◌, List, [], ◌∷◌, take, drop}

-- the number whose bytes are bs, the lowest first
unfoldable pub little : List ℕ → ℕ
little [] = 0
little (b ∷ bs) = b + 256 * little bs

-- n bytes from byte i on
abbrev pub part : List ℕ → ℕ → ℕ → List ℕ
part s i n = take n (drop i s)

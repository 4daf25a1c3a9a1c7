-- Values and bytes as they are printed. Assumes nothing.
use Rattle.std.specs.Prelude.{ℕ, List, [], ◌∷◌, ◌++◌}
use Rattle.text.specs.Numbers.{spelled}
use Rattle.text.specs.Hex.{spelled_byte}

-- numbers, each after a blank
abbrev pub each_spelled : List ℕ → List ℕ
each_spelled [] = []
each_spelled (n ∷ ns) = (32 ∷ spelled n) ++ each_spelled ns

-- bytes, each as two digits
abbrev pub pairs_spelled : List ℕ → List ℕ
pairs_spelled [] = []
pairs_spelled (b ∷ bs) = spelled_byte b ++ pairs_spelled bs

-- and a dash for none
abbrev pub bytes_spelled : List ℕ → List ℕ
bytes_spelled [] = 45 ∷ []
bytes_spelled (b ∷ bs) = pairs_spelled (b ∷ bs)

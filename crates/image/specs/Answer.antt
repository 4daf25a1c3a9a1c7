-- What the answers of a check mean (document 01, "Numbers given back"). Assumes nothing.
use Rattle.std.specs.Prelude.{List, [], ◌∷◌, ℕ}
use Rattle.image.specs.declared.Shape.{Shape}

-- accepted, with the numbers by which everything in the image is found; or refused, with a number and an entry
pub data Checked : Type 0 where
  Accepted : Shape → Checked
  Refused : ℕ → ℕ → Checked

-- the paper's number and entry of an answer
abbrev pub number_of : Checked → ℕ
number_of (Accepted g) = 0
number_of (Refused n e) = n

abbrev pub entry_of : Checked → ℕ
entry_of (Accepted g) = 0
entry_of (Refused n e) = e

-- its values: the numbers of the shape, in its order; zeros where it is refused
abbrev pub values_of : Checked → List ℕ
values_of (Accepted g) = g.copy ∷ g.dataset ∷ g.size ∷ g.sectors ∷ g.entries ∷ g.bytes ∷ g.psi ∷ g.directory ∷ g.table ∷ []
values_of (Refused n e) = 0 ∷ 0 ∷ 0 ∷ 0 ∷ 0 ∷ 0 ∷ 0 ∷ 0 ∷ 0 ∷ []

-- An annex: the shape of an image: the numbers by which everything in it is found. Assumes nothing.
use Rattle.std.specs.Prelude.{◌≡◌, List, ℕ, ◌+◌, ◌-◌, ◌*◌}
use Rattle.chains.specs.Psi.{Ψ}
use Rattle.chains.specs.declared.Place.{Place}
use Rattle.image.specs.Image.{copy, dataset, B, S, e#, SCTL, directory_at, table_at}
use Rattle.image.specs.Bounds.{Bounds}
use Rattle.image.specs.declared.Shape.{Shape}

-- g is the shape of c, which keeps the rules 1 to 6
pub record Shaped (c : List ℕ) (g : Shape) : Type 0 where
  pub copy_is : g.copy ≡ copy c
  pub dataset_is : g.dataset ≡ dataset c
  pub size_is : g.size ≡ B c
  pub sectors_is : g.sectors ≡ S c
  pub entries-is : g.entries ≡ e# c
  pub bytes-is : g.bytes ≡ SCTL c
  pub psi-is : g.psi ≡ Ψ (S c)
  pub directory-is : g.directory ≡ directory_at c
  pub table_is : g.table ≡ table_at c
  pub in_bounds : Bounds c

-- where the walk finds the chain table
abbrev pub table_of : Shape → Place
table_of g = record { first = 8 * g.table; psi = g.psi; sectors = g.sectors }

-- the byte where sector i starts, and the one where entry j does ("The image", "Directory sector")
abbrev pub sector_place : Shape → ℕ → ℕ
sector_place g i = 4 + i * g.size

abbrev pub entry_place : Shape → ℕ → ℕ
entry_place g j = g.directory + 2 + 5 * (j - 1)

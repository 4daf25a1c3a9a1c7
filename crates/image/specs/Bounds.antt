-- An annex: what the numbers of an image are worth once the rules 1 to 6 are kept: every place named in Image lies within it. Assumes nothing.
use Rattle.std.specs.Prelude.{List, ℕ, ◌+◌, ◌-◌, ◌*◌, ◌≤◌, ◌<◌, length}
use Rattle.chains.specs.Psi.{Ψ}
use Rattle.image.specs.Image.{copy, dataset, B, S, e#, SCTL, directory_at, table_at}

pub record Bounds (c : List ℕ) : Type 0 where
  pub copy_top : copy c ≤ 1
  pub s_least : 4 ≤ S c
  pub s_top : S c ≤ 255
  pub b_least : 32 ≤ B c
  pub b_top : B c ≤ 255
  pub e_least : 1 ≤ e# c
  pub e_top : e# c + 3 ≤ S c
  pub dataset_least : 22 ≤ dataset c
  pub dataset_top : dataset c ≤ B c
  pub shell_in : 4 + B c ≤ length c
  pub psi_top : Ψ (S c) ≤ 8
  pub table_top : 16 + 5 * e# c + SCTL c ≤ B c
  pub elements-in : Ψ (S c) * (S c - 3) ≤ 8 * SCTL c
  pub elements_fill : 8 * SCTL c < Ψ (S c) * (S c - 3) + 8
  pub directory_in : directory_at c + B c ≤ length c
  pub table_in : table_at c + SCTL c ≤ length c
  pub length_top : length c ≤ 65029

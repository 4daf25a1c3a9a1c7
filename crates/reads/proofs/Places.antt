-- Where the parts of an accepted image lie, for the calls that look at them. Assumes nothing.
use mathlib.Core.Path.{◌≡◌}
use mathlib.Core.List.{List, ◌++◌}
use Prim.Native.Nat.{ℕ, ◌+◌, ◌≤◌}
use native.Mathlib.Omega.{arith}
use lib.ListN.{length, drop}
use Rattle.fields.specs.Fields.{fields}
use Rattle.fields.specs.Lists.{head, tail}
use Rattle.image.specs.Image.{e#, SCTL, entry_at, table_at}
use Rattle.image.specs.Bounds.{Bounds}
use Rattle.image.specs.Shape.{Shaped}
use Rattle.image.specs.declared.Shape.{Shape}
use Rattle.reads.specs.Values.{directory_values}

-- the directory's six last values stand within the image
pub tail_in_lem : {c : List ℕ} → Bounds c → table_at c + SCTL c + 6 ≤ length c
unfolding table_at
tail_in_lem b = omega arith

-- the five bytes of an entry too
pub entry_in_lem : {c : List ℕ} → Bounds c → (j : ℕ) → 1 ≤ j → j ≤ e# c → entry_at c j + 5 ≤ length c
unfolding entry_at
entry_in_lem b j l h = omega arith

-- where the code finds the directory's values
pub directory-is : {c : List ℕ} {g : Shape} → Shaped c g → fields (drop g.directory c) head ++ fields (drop (g.table + g.bytes) c) tail ≡ directory_values c
directory-is s = rw (s.directory-is, s.table_is, s.bytes-is)

-- An annex: a packed chain table that stands anywhere in a list of bytes, and what is told of a walk over it (document 01, "Sector chains").
-- Assumes nothing.
use Rattle.std.specs.Prelude.{cond, List, ◌≡◌, ℕ, ◌+◌, ◌-◌, ◌*◌, ◌/◌, ◌%◌, ◌≤◌, eqb, length}
use Rattle.bits.specs.Bits.{field}
use Rattle.chains.specs.Walk.{Walk, found, broken}
use Rattle.chains.specs.Chain.{last_of}
use Rattle.chains.specs.declared.Place.{Place}

-- the bit where the element of sector i stands, of p bits, in a table that starts at bit first: SCT(1) is the first
abbrev pub element_at : ℕ → ℕ → ℕ → ℕ
element_at first p i = first + p * (i - 1)

-- the element of sector i
abbrev pub element_in : List ℕ → ℕ → ℕ → ℕ → ℕ
element_in l first p i = field l (element_at first p i) p

-- the table lies within l, from a whole byte on that is not one of the first two
pub record Inside (l : List ℕ) (t : Place) : Type 0 where
  pub least : 4 ≤ t.sectors
  pub most : t.sectors ≤ 255
  pub narrow : t.psi ≤ 8
  pub near : t.first ≤ 1000000
  pub far : 16 ≤ t.first
  pub whole : t.first % 8 ≡ 0
  pub within : t.first + t.psi * (t.sectors - 3) ≤ 8 * length l

-- the last sector, and 256 for each of n allowed sectors that was still allowed where it was met, the last included; 0 where the chain is broken
abbrev pub last_left : ℕ → Walk → ℕ
last_left n (found ss m) = last_of ss + 256 * (n + 1 - length ss)
last_left n (broken b) = 0

-- of that number r, not 0: the last sector
abbrev pub last_told : ℕ → ℕ
last_told r = r % 256

-- how many sectors are still allowed after it
abbrev pub left_told : ℕ → ℕ
left_told r = r / 256 - 1

-- and, of n allowed before, the number of the chain's sectors
abbrev pub count_told : ℕ → ℕ → ℕ
count_told r n = n - left_told r

-- the mark of the element x, which ends a chain at sector i
abbrev pub mark_said : ℕ → ℕ → ℕ → ℕ
mark_said s i x = cond (eqb x i) 0 (cond (eqb x (s - 1)) 1 2)

-- What is known of a shape: it is the image's own, and the walk over its table is the chain. Assumes nothing.
use mathlib.Core.Path.{◌≡◌, refl}
use mathlib.Core.List.{List}
use Prim.Native.Nat.{ℕ, ◌-◌, ◌*◌}
use native.Mathlib.Omega.{arith}
use lib.ListN.{length, take, drop, length-drop}
use lib.Seq.{take_all}
use Rattle.chains.specs.Psi.{Ψ}
use Rattle.chains.specs.Walk.{walk}
use Rattle.chains.specs.Packed.{Inside, element_in}
use Rattle.chains.specs.Owners.{follow}
use Rattle.image.specs.Image.{S, sector_at, directory_at, entry_at, table_at, element}
use Rattle.image.specs.Bounds.{Bounds}
use Rattle.image.specs.Check.{shape_of}
use Rattle.image.specs.Shape.{Shaped, table_of, sector_place, entry_place}
use Rattle.image.specs.declared.Shape.{Shape}

-- the bits of the elements
pub used-is : {c : List ℕ} {g : Shape} → Shaped c g → g.psi * (g.sectors - 3) ≡ Ψ (S c) * (S c - 3)
used-is s = rw (s.psi-is, s.sectors_is)

pub shaped : (c : List ℕ) → Bounds c → Shaped c (shape_of c)
shaped c b = record {
  copy_is = refl;
  dataset_is = refl;
  size_is = refl;
  sectors_is = refl;
  entries-is = refl;
  bytes-is = refl;
  psi-is = refl;
  directory-is = refl;
  table_is = refl;
  in_bounds = b;
}

-- and no other is
pub shape_is : {c : List ℕ} {g : Shape} → Shaped c g → g ≡ shape_of c
shape_is s = rw (← s.psi-is, ← s.directory-is, ← s.table_is, ← s.copy_is, ← s.dataset_is, ← s.size_is, ← s.sectors_is, ← s.entries-is, ← s.bytes-is)

-- the chain table lies within the image
pub inside : {c : List ℕ} {g : Shape} → Shaped c g → Inside c (table_of g)
unfolding table_at directory_at
inside s =
    let b = s.in_bounds in
    record { least = omega arith; most = omega arith; narrow = omega arith; near = omega arith; far = omega arith; whole = omega arith; within = omega (arith, used-is s) }

-- an element of it is the image's, and the walk over it is the chain
pub element-is : {c : List ℕ} {g : Shape} → Shaped c g → (i : ℕ) → element_in c (8 * g.table) g.psi i ≡ element c i
unfolding element
element-is s i = rw (s.psi-is, s.table_is)

pub walk_is : {c : List ℕ} {g : Shape} → Shaped c g → (j n : ℕ) → walk (element_in c (8 * g.table) g.psi) g.sectors j n ≡ walk (element c) (S c) j n
unfolding element
walk_is s j n = rw (s.psi-is, s.sectors_is, s.table_is)

pub follow-is : {c : List ℕ} {g : Shape} → Shaped c g → (k n : ℕ) (owner : List ℕ) → follow (element_in c (8 * g.table) g.psi) g.sectors k n owner k ≡ follow (element c) (S c) k n owner k
unfolding element
follow-is s k n owner = rw (s.psi-is, s.sectors_is, s.table_is)

-- the bytes from the place a on, as a slice has them
pub rest-is : (c : List ℕ) (a : ℕ) → take (length c - a) (drop a c) ≡ drop a c
rest-is c a = take_all (length c - a) (drop a c) (omega (arith, length-drop a c))

-- the places by the shape are those of the image
pub sector-is : {c : List ℕ} {g : Shape} → Shaped c g → (i : ℕ) → sector_place g i ≡ sector_at c i
unfolding sector_at
sector-is s i = rw s.size_is

pub entry-is : {c : List ℕ} {g : Shape} → Shaped c g → (j : ℕ) → entry_place g j ≡ entry_at c j
unfolding entry_at
entry-is s j = rw s.directory-is

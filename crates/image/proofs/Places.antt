-- Where the parts of an accepted image lie, for the code that finds them by its shape. Assumes nothing.
use mathlib.Core.Path.{◌≡◌, sym, ◌∙◌}
use mathlib.Core.List.{List}
use Prim.Native.Nat.{ℕ, ◌+◌, ◌-◌, ◌*◌, ◌≤◌, ◌<◌}
use native.Mathlib.Nat.{mul-le-mul_right}
use native.Mathlib.Omega.{arith}
use lib.ListN.{length, take, drop, length-drop}
use lib.Seq.{take_all, length-take-le, ext_get_or}
use Rattle.bits.proofs.Laws.{field_below, field-drop}
use Rattle.fields.specs.declared.Layout.{Layout}
use Rattle.fields.specs.Lists.{list_of, bit_after, nth}
use Rattle.fields.specs.Fields.{fields, value_at}
use Rattle.fields.proofs.Joined.{place-fits}
use Rattle.fields.proofs.Laws.{length_fields, get_or-fields}
use Rattle.chains.specs.Chain.{Sector}
use Rattle.chains.specs.Packed.{Inside, element_in}
use Rattle.chains.specs.declared.Place.{Place}
use Rattle.chains.proofs.Laws.{chain-short}
use Rattle.image.specs.Image.{S, sector_at, entry_at, element, sectors, product}
use Rattle.image.specs.Facts.{Present}
use Rattle.image.specs.Shape.{Shaped, table_of, sector_place, entry_place}
use Rattle.image.specs.declared.Shape.{Shape}
use Rattle.image.proofs.Shapes.{inside, sector-is}
use Rattle.image.proofs.Exact.{product-sector}
use Rattle.image.proofs.Same.{before-directory}
use Rattle.image.proofs.First.{product-size, product-first}
use Rattle.image.proofs.Stays.{chain_of}

-- ---- a part of a list

-- from a place on to its end
pub from_is : (l : List ℕ) (a : ℕ) → take (length l - a) (drop a l) ≡ drop a l
from_is l a = take_all (length l - a) (drop a l) (rw (length-drop a l) (omega arith))

pub from-length : (l : List ℕ) (a : ℕ) → length (take (length l - a) (drop a l)) ≡ length l - a
from-length l a = rw (from_is l a) (length-drop a l)

-- n elements from a place on
pub cut : (a n : ℕ) → a + n - a ≡ n
cut a n = omega arith

pub part_long : (l : List ℕ) (a n : ℕ) → a + n ≤ length l → length (take (a + n - a) (drop a l)) ≡ n
part_long l a n h = rw (cut a n) (length-take-le n (drop a l) (omega (arith, length-drop a l)))

-- ---- the places

module _ {c : List ℕ} {g : Shape} (s : Shaped c g) where
  -- a sector of a chain lies within the image
  pub sector-in : (i : ℕ) → Sector (S c) i → sector_place g i + g.size ≤ length c
  sector-in i k = let b = s.in_bounds in omega (arith, sector-is s i, s.size_is, before-directory c b i k)

  -- so do the five bytes of an entry
  pub entry_in_lem : (j : ℕ) → (1 ≤ j) × (j ≤ g.entries) → entry_place g j + 5 ≤ length c
  unfolding entry_at
  entry_in_lem j h = let b = s.in_bounds in omega (arith, s.directory-is, s.entries-is)

  -- SCT(i), a byte, is what the code reads by the shape's table
  pub element-asks : {t : Place} → t ≡ table_of g → (i : ℕ) → Sector (S c) i → Inside c t × Sector t.sectors i
  element-asks q i k = rw q (inside s, rw s.sectors_is k)

  pub element-read : {t : Place} → t ≡ table_of g → (i r : ℕ) → r ≡ element_in c t.first t.psi i → (r ≡ element c i) × (r < 256)
  unfolding element
  element-read q i r e =
      let h = rw (q, s.table_is, s.psi-is) at e in
      (h, rw h (field_below c _ _ 8 s.in_bounds.psi_top))

-- the records in a product's first thirty-two bytes are those of its first sector
module _ {c : List ℕ} {j : ℕ} (t : Present c j) where
  pub own-sector : Sector (S c) j
  own-sector = product-sector c t.obeys.entries.1 t.is-product

  pub value-first : (k : Layout) (i : ℕ) → i < length (list_of k) → bit_after k ≤ 256 → value_at k i (drop (sector_at c j) c) ≡ value_at k i (product c j)
  value-first k i h e =
      let b = t.obeys.size_least in
      let p = nth (list_of k) i in
      field-drop c (sector_at c j) p.0 p.1
      ∙ sym (product-first c t.obeys t.is-product p.0 p.1 (omega (arith, (place-fits k i 256 h e).1)))

  pub fields-first : (k : Layout) → bit_after k ≤ 256 → fields (drop (sector_at c j) c) (list_of k) ≡ fields (product c j) (list_of k)
  fields-first k e =
      let n = length_fields (drop (sector_at c j) c) (list_of k) in
      ext_get_or 0 _ _ (n ∙ sym (length_fields (product c j) (list_of k)))
      (λ i h. let l : i < length (list_of k) = omega arith in get_or-fields _ (list_of k) i l ∙ value-first k i l e ∙ sym (get_or-fields _ (list_of k) i l))

-- a product of n sectors, by the shape: its size, and that it is smaller than the image
module _ {c : List ℕ} {g : Shape} (s : Shaped c g) {j : ℕ} (t : Present c j) {n : ℕ} (e : n ≡ length (sectors c j)) where
  pub size_of : n * g.size ≡ length (product c j)
  size_of = rw (e, s.size_is) (sym (product-size c t.obeys t.is-product))

  pub count-few : n ≤ S c - 3
  count-few = rw e (chain-short (element c) (S c) (own-sector t) (chain_of c t.obeys t.is-product))

  pub size_in : 4 + n * g.size ≤ length c
  size_in =
      let b = s.in_bounds in
      omega (arith, sector-in s (S c - 3) (record { low = omega arith; high = omega arith }), mul-le-mul_right {n = S c - 3} g.size count-few)

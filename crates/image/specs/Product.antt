-- A product of an image: where it stands, and what its entry, its header and its chain say. After the image's own numbers this is all that a step looks at.
-- Document 01, "Directory sector", "Sector chains" and "Ticket fields". Assumes nothing.
use Rattle.std.specs.Prelude.{ℕ, ◌+◌, ◌-◌, ◌*◌, List, length, drop}
use Rattle.fields.specs.Fields.{value_at}
use Rattle.fields.specs.declared.Layout.TheVariants.{Entry, Header}
use Rattle.chains.specs.Chain.{last_of}
use Rattle.chains.specs.Psi.{Ψ}
use Rattle.image.specs.Image.{S, sector_at, entry_at, table_at, sectors, mark, product}

unfoldable pub element_at : List ℕ → ℕ → ℕ  -- the bit where SCT(i) starts
element_at c i = 8 * table_at c + Ψ (S c) * (i - 1)

pub record Product : Type 0 where
  -- the bit where its first sector starts, and where the element of its last sector does; the bits of an element; S
  pub start : ℕ
  pub element_bit : ℕ
  pub width : ℕ
  pub top : ℕ
  -- TYP of its entry; the revision and IPELength of its header; its size in bytes; its mark
  pub typ : ℕ
  pub revision : ℕ
  pub blocks : ℕ
  pub size : ℕ
  pub marked : ℕ

unfoldable pub product_at : List ℕ → ℕ → Product
product_at c j = record {
  start = 8 * sector_at c j;
  element_bit = element_at c (last_of (sectors c j));
  width = Ψ (S c);
  top = S c;
  typ = value_at Entry 2 (drop (entry_at c j) c);
  revision = value_at Header 2 (product c j);
  blocks = value_at Header 0 (product c j);
  size = length (product c j);
  marked = mark c j;
}

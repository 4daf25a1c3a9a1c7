-- A product that the code holds is one: its entry and its first sector lie within the image, it is of its size, and its chain is as it was found.
-- Assumes nothing.
use mathlib.Core.Path.{◌≡◌}
use mathlib.Core.List.{List}
use Prim.Native.Nat.{ℕ, ◌+◌, ◌*◌, ◌≤◌}
use lib.ListN.{length}
use Rattle.image.specs.Facts.{Present}
use Rattle.image.specs.Image.{product}
use Rattle.image.specs.Shape.{Shaped}
use Rattle.image.specs.declared.product.Product.{Product}
use Rattle.image.proofs.Exact.{accepts, test-product}
use Rattle.image.proofs.Founds.{Finds, finds_at}
use Rattle.image.proofs.Places.{size_of, size_in}

module _ (p : Product) where
  pub there : Present p.card.image.now p.entry
  there = record { obeys = (accepts p.card.image.now).0 p.accepted; is-product = test-product p.card.image.now p.entry p.is_there }

  pub sized : p.chain.count * p.card.shape.size ≡ length (product p.card.image.now p.entry)
  sized = size_of p.card.shaped there p.count_is

  pub sized_in : 4 + p.chain.count * p.card.shape.size ≤ length p.card.image.now
  sized_in = size_in p.card.shaped there p.count_is

  pub found : Finds p.card.image.now p.entry p.chain.last p.chain.count
  found = finds_at p.card.image.now p.entry p.accepted p.is_there p.last_is p.count_is

-- it is that of entry j of the image c
pub record Holds (c : List ℕ) (j : ℕ) (p : Product) : Type 0 where
  pub finds : Finds c j p.chain.last p.chain.count
  pub shape : Shaped c p.card.shape

pub holds : {c : List ℕ} {j : ℕ} (p : Product) → (p.card.image.now ≡ c) × (p.entry ≡ j) → Holds c j p
holds p e = rw (← e.0, ← e.1) (record { finds = found p; shape = p.card.shaped })

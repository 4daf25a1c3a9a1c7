-- A product of an acceptable image: its size, and its first bytes. B is at least 32, so its fixed fields lie in the first sector of its chain.
-- Assumes nothing.
use mathlib.Core.Path.{◌≡◌, refl, ap, ◌∙◌}
use mathlib.Core.Logic.{inl, inr}
use mathlib.Core.List.{List, [], ◌∷◌, ◌++◌}
use Prim.Native.Nat.{ℕ, ◌+◌, ◌*◌, ◌≤◌}
use native.Mathlib.Nat.{suc-mul}
use native.Mathlib.Omega.{arith}
use lib.ListN.{length, take, drop, length-drop, length-append}
use lib.Seq.{length-take-le, take_at}
use Rattle.bits.specs.Bits.{Bytes, field}
use Rattle.bits.proofs.Laws.{field_cong, field-part, bit-append-left, bytes-append, bytes_take, bytes_drop}
use Rattle.chains.specs.Chain.{Sector, Leads, last, In}
use Rattle.chains.specs.Chain as C
use Rattle.chains.proofs.Laws.{chain-sectors}
use Rattle.image.specs.Image.{B, S, sector_at, element, sectors, sector, joined, product}
use Rattle.image.specs.Obeys.{IsProduct}
use Rattle.image.specs.Facts.{Facts}
use Rattle.image.proofs.Exact.{product-sector}
use Rattle.image.proofs.Accepted.{facts_bounds}
use Rattle.image.proofs.Same.{before-directory}
use Rattle.image.proofs.Stays.{chain_of}

-- a chain's list starts with the sector it starts at
pub sectors-head : {f : ℕ → ℕ} {s i m : ℕ} {ss : List ℕ} → Leads f s i ss m → (rest : List ℕ) × (ss ≡ i ∷ rest)
sectors-head (last a) = ([], refl)
sectors-head (C.then {ss = ss} a p) = (ss, refl)

pub first_in : {f : ℕ → ℕ} {s i m : ℕ} {ss : List ℕ} → Leads f s i ss m → In i ss
first_in (last a) = inl refl
first_in (C.then a p) = inl refl

pub bytes-joined : (c : List ℕ) → Bytes c → (is : List ℕ) → Bytes (joined c is)
unfolding joined sector
bytes-joined c b [] = λ k. omega arith
bytes-joined c b (i ∷ is) =
    bytes-append (sector c i) (joined c is) (bytes_take (B c) (drop (sector_at c i) c) (bytes_drop (sector_at c i) c b)) (bytes-joined c b is)

module _ (c : List ℕ) (o : Facts c) where
  pub length-sector : (i : ℕ) → Sector (S c) i → length (sector c i) ≡ B c
  unfolding sector
  length-sector i k =
      let h = before-directory c (facts_bounds c o) i k in
      let g = (facts_bounds c o).directory_in in
      length-take-le (B c) (drop (sector_at c i) c) (omega (arith, length-drop (sector_at c i) c))

  length-joined : (is : List ℕ) → ((i : ℕ) → In i is → Sector (S c) i) → length (joined c is) ≡ length is * B c
  unfolding joined
  length-joined [] h = omega arith
  length-joined (i ∷ is) h =
      let a = length-append (sector c i) (joined c is) in
      let b = length-sector i (h i (inl refl)) in
      let r = length-joined is (λ k m. h k (inr m)) in
      omega (arith, suc-mul (length is) (B c))

  module _ {j : ℕ} (v : IsProduct c j) where
    -- the product's size is its number of sectors times B
    pub product-size : length (product c j) ≡ length (sectors c j) * B c
    unfolding product
    product-size = length-joined (sectors c j) (chain-sectors (element c) (S c) (product-sector c o.entries.1 v) (chain_of c o v))

    -- the product starts with sector j
    pub product-starts : (rest : List ℕ) × (product c j ≡ sector c j ++ rest)
    unfolding product joined
    product-starts = let r = sectors-head (chain_of c o v).leads in (joined c r.0, ap (joined c) r.1)

    pub first-sector : take (B c) (product c j) ≡ sector c j
    first-sector = rw product-starts.1 (take_at (sector c j) product-starts.0 (B c) (length-sector j (product-sector c o.entries.1 v)))

    pub product-first : (p w : ℕ) → p + w ≤ 8 * B c → field (product c j) p w ≡ field c (8 * sector_at c j + p) w
    unfolding sector
    product-first p w h =
        let e = length-sector j (product-sector c o.entries.1 v) in
        rw product-starts.1
        (field_cong (sector c j ++ product-starts.0) (sector c j) p p w
        (λ i u. bit-append-left (sector c j) product-starts.0 (p + i) (omega arith))
        ∙ field-part c (sector_at c j) (B c) p w h)

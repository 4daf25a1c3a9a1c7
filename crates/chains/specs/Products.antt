-- An annex: the chains of a card's products, as the machine finds them. `P j` says that entry j is a product, `p j` is the test of it, and its chain
-- starts at sector j. Document 01, "Sector chains" and the rows 10 and 11. Assumes nothing.
use Rattle.std.specs.Prelude.{◌≢◌, Bool, true, false, ◌&&◌, ◌||◌, List, [], ◌∷◌, ◌++◌, ℕ, zero, suc, ◌-◌, length}
use Rattle.chains.specs.Chain.{Chain, Common, In, last_of}
use Rattle.chains.specs.Walk.{Walk, found, broken, walk, member}

-- every product has a chain
abbrev pub Chained : (ℕ → Type 0) → (ℕ → ℕ) → ℕ → Type 0
Chained P f S = (j : ℕ) → P j → (ss : List ℕ) × (m : ℕ) × Chain f S j ss m

-- no two products have a sector in common
abbrev pub Disjoint : (ℕ → Type 0) → (ℕ → ℕ) → ℕ → Type 0
Disjoint P f S =
    (j k : ℕ) → P j → P k → j ≢ k → (ss ts : List ℕ) (m n : ℕ) → Chain f S j ss m → Chain f S k ts n → Common ss ts → ⊥

-- no product's chain passes sector x: its element is carried and not judged
abbrev pub InNoChain : (ℕ → Type 0) → (ℕ → ℕ) → ℕ → ℕ → Type 0
InNoChain P f S x = (j : ℕ) → P j → (ss : List ℕ) (m : ℕ) → Chain f S j ss m → In x ss → ⊥

-- ---- as tests

-- the walk from sector j, with S - 3 sectors allowed
abbrev pub chain_at : (ℕ → ℕ) → ℕ → ℕ → Walk
chain_at f S j = walk f S j (S - 3)

abbrev pub sectors_of : Walk → List ℕ
sectors_of (found ss m) = ss
sectors_of (broken b) = []

-- fresh 0, used 1, blocked 2
abbrev pub mark_of : Walk → ℕ
mark_of (found ss m) = m
mark_of (broken b) = 0

abbrev pub is_broken : Walk → Bool
is_broken (found ss m) = false
is_broken (broken b) = true

-- 10 at entry j
unfoldable pub broken_at : (ℕ → Bool) → (ℕ → ℕ) → ℕ → ℕ → Bool
broken_at p f S j = p j && is_broken (chain_at f S j)

unfoldable pub meet : List ℕ → List ℕ → Bool
meet [] ys = false
meet (x ∷ xs) ys = member x ys || meet xs ys

-- whether the test passes at one of 0, .., n - 1
unfoldable pub some : ℕ → (ℕ → Bool) → Bool
some zero t = false
some (suc n) t = some n t || t n

-- 11 at entry k
unfoldable pub shares_at : (ℕ → Bool) → (ℕ → ℕ) → ℕ → ℕ → Bool
shares_at p f S k = p k && some k λ j. p j && meet (sectors_of (chain_at f S j)) (sectors_of (chain_at f S k))

-- ---- by the last sectors alone

abbrev pub when : Bool → ℕ → ℕ
when true n = n
when false n = 0

abbrev pub last_in : Walk → ℕ
last_in (found ss m) = last_of ss
last_in (broken b) = 0

-- the last sector of product j's chain; 0 where j is no product, or its chain broken
unfoldable pub last_at : (ℕ → Bool) → (ℕ → ℕ) → ℕ → ℕ → ℕ
last_at p f S j = when (p j) (last_in (chain_at f S j))

-- and the number of its sectors
unfoldable pub count_at : (ℕ → Bool) → (ℕ → ℕ) → ℕ → ℕ → ℕ
count_at p f S j = when (p j) (length (sectors_of (chain_at f S j)))

-- ---- all of them

abbrev pub if_product : Bool → List ℕ → List ℕ
if_product true ss = ss
if_product false ss = []

-- the sectors of the chains of the products 1, .., n, joined
unfoldable pub all_sectors : (ℕ → Bool) → (ℕ → ℕ) → ℕ → ℕ → List ℕ
all_sectors p f S zero = []
all_sectors p f S (suc n) = all_sectors p f S n ++ if_product (p (suc n)) (sectors_of (chain_at f S (suc n)))

-- What an acceptable image is, and when each number is given (document 01, "Numbers given back"). Assumes nothing.
use Rattle.std.specs.Prelude.{◌≢◌, List, ℕ, ◌*◌, ◌≤◌, ◌<◌}
use Rattle.bits.specs.Bits.{field}
use Rattle.chains.specs.Chain as chain
use Rattle.rules.specs.Claim.{Rule, Kept, Fails}
use Rattle.image.specs.Image.{S, e#, entry_at, element}
use Rattle.image.specs.Product.{Product, product_at}
use Rattle.image.specs.Rules.{rules}

-- entry j is there and not empty: not all of its forty bits are zero
pub record IsProduct (c : List ℕ) (j : ℕ) : Type 0 where
  pub low : 1 ≤ j
  pub high : j ≤ e# c
  pub full : field c (8 * entry_at c j) 40 ≢ 0

abbrev pub Broken : List ℕ → ℕ → Type 0  -- 10: entry j is a product, and no chain starts at sector j
Broken c j = chain.Broken (IsProduct c) (element c) (S c) j

abbrev pub Shares : List ℕ → ℕ → Type 0  -- 11: the chain of product k has a sector in common with that of a lower one
Shares c k = chain.Shares (IsProduct c) (element c) (S c) k

-- the rules 1 to 9 and 12 are kept, no chain is broken, and no two chains have a sector in common
pub record Obeys (c : List ℕ) : Type 0 where
  pub kept : Kept (rules c)
  pub none_broken : (j : ℕ) → Broken c j → ⊥
  pub none_shares : (k : ℕ) → Shares c k → ⊥

-- r is the lowest number of which P holds
pub record Lowest (P : ℕ → Type 0) (r : ℕ) : Type 0 where
  pub holds : P r
  pub not_lower : (k : ℕ) → k < r → P k → ⊥

-- an image gives the number n, with the entry e
pub data Says (c : List ℕ) : ℕ → ℕ → Type 0 where
  accepted : Obeys c → Says c 0 0
  refused : {n : ℕ} → Fails (rules c) n → Says c n 0
  broken : {j : ℕ} → Kept (rules c) → Lowest (Broken c) j → Says c 10 j
  shared : {k : ℕ} → Kept (rules c) → ((j : ℕ) → Broken c j → ⊥) → Lowest (Shares c) k → Says c 11 k

-- a call on entry j that has these rules for its product gives the number n, with the entry e: "20 to 28 name the entry asked for"
pub data Gives (c : List ℕ) (j : ℕ) (rs : Product → List Rule) : ℕ → ℕ → Type 0 where
  own : {n e : ℕ} → 1 ≤ n → Says c n e → Gives c j rs n e  -- 1 to 12 come first
  no_product : Obeys c → (IsProduct c j → ⊥) → Gives c j rs 20 j  -- entry 0, above e#, or empty
  against : {n : ℕ} → Obeys c → IsProduct c j → Fails (rs (product_at c j)) n → Gives c j rs n j
  taken : Obeys c → IsProduct c j → Kept (rs (product_at c j)) → Gives c j rs 0 0

-- The laws of the two passes over the chains, at an image's entries. Assumes nothing.
use mathlib.Core.Path.{◌≡◌}
use mathlib.Core.Logic.{◌≢◌}
use mathlib.Core.Bool.{true, false}
use mathlib.Core.List.{List}
use Prim.Native.Nat.{ℕ, ◌+◌, ◌-◌, ◌≤◌}
use lib.ListN.{get_or, set}
use native.Mathlib.Omega.{arith}
use Rattle.rules.specs.Lowest.{lowest}
use Rattle.rules.proofs.LowestLaws.{lowest-here, lowest-none, none-lowest}
use Rattle.chains.specs.Walk.{walk}
use Rattle.chains.specs.Packed.{last_left, last_told, left_told}
use Rattle.chains.specs.Owners.{stop, follow}
use Rattle.chains.proofs.ProductLaws as laws
use Rattle.chains.proofs.Owners as second
use Rattle.chains.proofs.Pass as first
use Rattle.image.specs.Image.{S, e#, element}
use Rattle.image.specs.Verdict.{is_product, broken_at, shares_at}
use Rattle.image.specs.Found.{last_at, count_at}
use Rattle.image.proofs.Exact.{tested}

-- what the first pass knows before entry k, with n elements still allowed; of what it gave for entry k; and where it stops there
abbrev pub Pass : List ℕ → ℕ → ℕ → List ℕ → Type 0
Pass c = first.Pass (is_product c) (element c) (S c)

abbrev pub Passes : List ℕ → ℕ → ℕ → ℕ → Type 0
Passes c = first.Passes (is_product c) (element c) (S c)

abbrev pub Unsound : List ℕ → ℕ → Type 0
Unsound c = first.Unsound (is_product c) (element c) (S c)

-- what the second knows before entry k
abbrev pub Owners : List ℕ → ℕ → ℕ → List ℕ → Type 0
Owners c = second.Owners (element c) (S c)

module _ (c : List ℕ) where
  pub no_product : (j : ℕ) → e# c ≤ S c - 3 → is_product c j ≡ false → (broken_at c j ≡ false) × (last_at c j ≡ 0) × (count_at c j ≡ 0)
  unfolding broken_at
  no_product j fits = laws.no_product (tested c fits) (element c) j

module _ (c : List ℕ) (fits : e# c ≤ S c - 3) (most : S c ≤ 255) where
  -- ---- the first pass

  module _ {k n : ℕ} {seen : List ℕ} (w : Pass c k n seen) where
    pub pass-skip : is_product c k ≡ false → Pass c (k + 1) n seen
    pass-skip = first.pass-skip (tested c fits) (element c) w

    module _ (v : is_product c k ≡ true) {r : ℕ} (e : r ≡ last_left n (walk (element c) (S c) k n)) where
      pub pass-none : r ≡ 0 → Unsound c k
      pass-none = first.pass-none (tested c fits) (element c) w most v e

      pub pass-met : r ≢ 0 → get_or seen (last_told r) 0 ≢ 0 → Unsound c k
      pass-met = first.pass-met (tested c fits) (element c) w most v e

      pub pass-take : r ≢ 0 → get_or seen (last_told r) 0 ≡ 0 → Passes c k n r × Pass c (k + 1) (left_told r) (set seen (last_told r) 1)
      pass-take = first.pass-take (tested c fits) (element c) w most v e

    -- after the last entry: none is broken, and none shares
    pub pass-end : k ≡ e# c + 1 → (0 ≡ lowest (e# c) (broken_at c)) × (0 ≡ lowest (e# c) (shares_at c))
    unfolding broken_at shares_at
    pass-end q =
        (lowest-none (e# c) (broken_at c) (λ j l. w.sound j (omega arith)), lowest-none (e# c) (shares_at c) (λ j l h. first.pass-clean (tested c fits) (element c) w j (omega arith)))

  -- ---- the second

  module _ {k n r : ℕ} {owner after : List ℕ} (o : Owners c k n owner) (v : is_product c k ≡ true) (e : stop r after ≡ follow (element c) (S c) k n owner k) where
    pub follow-broken : r ≡ 0 → broken_at c k ≡ true
    unfolding broken_at
    follow-broken = second.follow-broken (tested c fits) (element c) most o v e

    pub follow-sound : r ≢ 0 → (broken_at c k ≡ false) × Owners c (k + 1) (r - 1) after
    unfolding broken_at
    follow-sound = second.follow-sound (tested c fits) (element c) most o v e

-- where the first pass stops at entry k and no chain is broken, k is the lowest that shares
pub unsound-lowest : (c : List ℕ) {k : ℕ} → Unsound c k → 1 ≤ k → k ≤ e# c → 0 ≡ lowest (e# c) (broken_at c) → k ≡ lowest (e# c) (shares_at c)
unfolding broken_at shares_at
unsound-lowest c {k} u a b z = lowest-here (e# c) (shares_at c) k a b (u.shares (none-lowest (e# c) (broken_at c) z k a b)) u.clean

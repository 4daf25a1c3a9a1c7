-- A chain's sectors in order: the first is where it starts, and the element of each but the last names the next. This is what a loop over a
-- chain goes by. Assumes nothing.
use mathlib.Core.Path.{◌≡◌, refl}
use mathlib.Core.Logic.{inl, inr}
use mathlib.Core.List.{List, [], ◌∷◌}
use Prim.Native.Nat.{ℕ, zero, suc, ◌+◌, ◌<◌}
use native.Mathlib.Numerals.{add-one}
use native.Mathlib.Omega.{arith}
use lib.ListN.{length, get_or}
use Rattle.chains.specs.Chain.{Sector, Leads, last, then, In, Chain}
use Rattle.chains.proofs.Laws.{leads-sectors}

pub in-at : (xs : List ℕ) (k : ℕ) → k < length xs → In (get_or xs k 0) xs
in-at [] k h = absurd (omega arith)
in-at (x ∷ xs) zero h = inl refl
in-at (x ∷ xs) (suc k) h = inr (in-at xs k (omega arith))

module _ (f : ℕ → ℕ) (S : ℕ) where
  leads-first : {i m : ℕ} {ss : List ℕ} → Leads f S i ss m → get_or ss 0 0 ≡ i
  leads-first (last a) = refl
  leads-first (then a p) = refl

  leads-next : {i m : ℕ} {ss : List ℕ} → Leads f S i ss m → (k : ℕ) → suc k < length ss → get_or ss (suc k) 0 ≡ f (get_or ss k 0)
  leads-next (last a) k h = absurd (omega arith)
  leads-next (then a p) zero h = leads-first p
  leads-next (then a p) (suc k) h = leads-next p k (omega arith)

  module _ {i m : ℕ} {ss : List ℕ} (c : Chain f S i ss m) where
    pub chain_first : get_or ss 0 0 ≡ i
    chain_first = leads-first c.leads

    pub chain_next : (k : ℕ) → k + 1 < length ss → get_or ss (k + 1) 0 ≡ f (get_or ss k 0)
    chain_next k h = rw add-one (leads-next c.leads k (omega arith))

    pub chain-sector : Sector S i → (k : ℕ) → k < length ss → Sector S (get_or ss k 0)
    chain-sector s k h = leads-sectors f S s c.leads (get_or ss k 0) (in-at ss k h)

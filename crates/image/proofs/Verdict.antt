-- The verdict from its parts: the number by the rules 1 to 9 and 12, and then the lowest broken chain and the lowest shared sector. Assumes nothing.
use mathlib.Core.Path.{◌≡◌, refl}
use mathlib.Core.Logic.{◌≢◌}
use mathlib.Core.List.{List, [], ◌∷◌, ◌++◌}
use Prim.Native.Nat.{ℕ, zero, suc}
use Rattle.rules.specs.Claim.{Rule, Kept}
use Rattle.rules.specs.First.{first}
use Rattle.rules.specs.Lowest.{lowest}
use Rattle.image.specs.Image.{e#}
use Rattle.image.specs.Rules.{head_rules, size_rules, content_rules, rules}
use Rattle.image.specs.Verdict.{broken_at, shares_at, judged, verdict}
use Rattle.image.specs.Bounds.{Bounds}
use Rattle.image.proofs.Bounded.{bounds}
use Rattle.image.proofs.Exact.{numbered}
use Rattle.image.proofs.Stops.{kept}

kept_split : (rs ss : List Rule) → Kept (rs ++ ss) → Kept rs × Kept ss
kept_split [] ss k = (tt, k)
kept_split (r ∷ rs) ss k = let t = kept_split rs ss k.1 in ((k.0, t.0), t.1)

module _ (c : List ℕ) {n : ℕ} (e : n ≡ first (rules c)) where
  -- refused by the rules 1 to 9 and 12, that is the verdict
  pub ruled_out : n ≢ 0 → verdict c ≡ record { number = n; entry = 0 }
  unfolding verdict
  ruled_out h = rw (← e) (go n h)
    where
      go : (n : ℕ) → n ≢ 0 → judged n (lowest (e# c) (broken_at c)) (lowest (e# c) (shares_at c)) ≡ record { number = n; entry = 0 }
      go zero h = absurd (h refl)
      go (suc n) h = refl

  module _ (z : n ≡ 0) where
    -- kept, they bound every number
    pub ruled-bounds : Bounds c
    unfolding rules
    ruled-bounds =
        let t = kept_split (head_rules c) (size_rules c ++ content_rules c) (kept (rules c) (numbered c) e z) in
        bounds c t.0 (kept_split (size_rules c) (content_rules c) t.1).0

    -- and the chains decide
    pub at-chains : verdict c ≡ judged 0 (lowest (e# c) (broken_at c)) (lowest (e# c) (shares_at c))
    unfolding verdict
    at-chains = rw (← e, z)

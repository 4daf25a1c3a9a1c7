-- The rules 1 to 9 and 12 are judged in three parts, one after the other, and the number is that of the first part that has one. Assumes nothing.
use mathlib.Core.Path.{◌≡◌, refl, sym, ap, ◌∙◌}
use mathlib.Core.Logic.{◌≢◌}
use mathlib.Core.List.{List, ◌++◌}
use Prim.Native.Nat.{ℕ, zero, suc}
use native.Mathlib.Omega.{arith}
use Rattle.rules.specs.Claim.{Rule, Kept}
use Rattle.rules.specs.First.{first}
use Rattle.rules.proofs.ClaimLaws.{Numbered, or_else, first-append}
use Rattle.rules.proofs.First.{kept-of-first}
use Rattle.image.specs.Rules.{head_rules, size_rules, content_rules, rules}
use Rattle.image.specs.Bounds.{Bounds}
use Rattle.image.proofs.Bounded.{bounds}

-- rules of which none fails are kept
pub kept : (rs : List Rule) → Numbered rs → {n : ℕ} → n ≡ first rs → n ≡ 0 → Kept rs
kept rs h e z = kept-of-first rs h (sym e ∙ z)

taken : (n m : ℕ) → n ≢ 0 → or_else n m ≡ n
taken zero m h = absurd (h refl)
taken (suc n) m h = refl

module _ (c : List ℕ) where
  by_parts : first (rules c) ≡ or_else (first (head_rules c)) (or_else (first (size_rules c)) (first (content_rules c)))
  unfolding rules
  by_parts =
      first-append (head_rules c) (size_rules c ++ content_rules c) (omega arith)
      ∙ ap (or_else (first (head_rules c))) (first-append (size_rules c) (content_rules c) (omega arith))

  module _ {n : ℕ} (e : n ≡ first (head_rules c)) where
    pub at_head : n ≢ 0 → n ≡ first (rules c)
    at_head h = rw (by_parts, ← e, taken _ _ h)

    module _ (z : n ≡ 0) {m : ℕ} (f : m ≡ first (size_rules c)) where
      pub at_size : m ≢ 0 → m ≡ first (rules c)
      at_size h = rw (by_parts, ← e, z, ← f, taken _ _ h)

      module _ (y : m ≡ 0) where
        pub head-bounds : Bounds c
        head-bounds = bounds c (kept (head_rules c) (omega arith) e z) (kept (size_rules c) (omega arith) f y)

        pub at-content : {k : ℕ} → k ≡ first (content_rules c) → k ≡ first (rules c)
        at-content d = rw (by_parts, ← e, z, ← f, y, d)

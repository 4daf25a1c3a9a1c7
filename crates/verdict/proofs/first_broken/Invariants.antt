-- `verdict::first_broken` meets its contract: no entry before k has a broken chain, and each sector met has its owner. Assumes nothing.
use mathlib.Core.Path.{◌≡◌}
use mathlib.Core.Bool.{true}
use Prim.Native.Nat.{ℕ, ◌≤◌, ◌<◌, ◌+◌}
use Rattle.image.specs.Verdict.{broken_at}
use Rattle.image.proofs.Entries.{Owners}
use Rattle.verdict.proofs.first_broken.Given as goal

abbrev pub invariant-loop-k : goal.invariant-loop-k
invariant-loop-k l = (1 ≤ l.k) × (l.k ≤ l.card.shape.entries + 1) × Owners l.card.image.now l.k l.left l.owner × ((a : ℕ) → a < l.k → 1 ≤ a → broken_at l.card.image.now a ≡ true → ⊥)

-- `Bounded::pass` meets its contract: before entry k the pass knows what `Pass` says, and holds what it found of the entry asked for.
-- Assumes nothing.
use mathlib.Core.Path.{◌≡◌}
use Prim.Native.Nat.{◌≤◌, ◌+◌, ◌-◌, ◌/◌, ◌%◌}
use Rattle.image.specs.Found.{last_at, count_at}
use Rattle.image.proofs.Entries.{Pass}
use Rattle.verdict.proofs.Kept.{Holds}
use Rattle.verdict.proofs.measure.Bounded.pass.Given as goal

abbrev pub invariant-loop-k : goal.invariant-loop-k
invariant-loop-k l =
    (l.k ≤ l.card.shape.entries + 1) × Pass l.card.image.now l.k ((l.spare - 256) / 256) l.seen × (256 ≤ l.spare) × (l.spare % 256 ≡ 0)
    × Holds (last_at l.card.image.now) l.entry l.k (l.told % 256) × Holds (count_at l.card.image.now) l.entry l.k (l.told / 256)

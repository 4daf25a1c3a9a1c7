-- `bits::save` meets its contract. The loop's invariant, with t the list that is to come: from byte from + k on the slice
-- is t, before that it is what it was, and y is what the bytes of t before from + k carry. Assumes nothing.
use mathlib.Core.Path.{◌≡◌}
use mathlib.Core.List.{List}
use Prim.Native.Nat.{ℕ, ◌≤◌, ◌<◌, ◌+◌, ◌-◌, ◌*◌}
use lib.ListN.{get_or}
use Rattle.bits.specs.Bits.{field, store}
use Rattle.bits.proofs.save.Given as goal

pub record Half (l t s : List ℕ) (from k y : ℕ) : Type 0 where
  pub begun : from ≤ k
  pub before : (i : ℕ) → i < k → get_or s i 0 ≡ get_or l i 0
  pub after : (i : ℕ) → k ≤ i → get_or s i 0 ≡ get_or t i 0
  pub rest : y ≡ field t (8 * from) (8 * (k - from))

abbrev pub invariant-loop-k : goal.invariant-loop-k
invariant-loop-k l = Half l.initial.s (store l.initial.s (8 * l.from) (8 * l.count) l.x) l.s l.from (l.from + l.k) l.y

-- What the walk's one number tells: the last sector is below 256, so that it and the sectors still allowed can be taken apart again.
-- Assumes nothing.
use mathlib.Core.Path.{◌≡◌}
use mathlib.Core.List.{List}
use Prim.Native.Nat.{ℕ, ◌-◌, ◌≤◌, ◌<◌}
use native.Mathlib.Omega.{arith}
use borrow.Author.Tests.{eq-eqb, ne_eqb}
use lib.ListN.{length}
use Rattle.chains.specs.Chain.{Sector, Ends, fresh, used, blocked, last_of}
use Rattle.chains.specs.Walk.{found}
use Rattle.chains.specs.Packed.{last_left, last_told, left_told, count_told, mark_said}

module _ (n : ℕ) (ss : List ℕ) (m : ℕ) (small : last_of ss < 256) (short : length ss ≤ n) where
  pub last-told : last_told (last_left n (found ss m)) ≡ last_of ss
  last-told = omega arith

  pub count-told : count_told (last_left n (found ss m)) n ≡ length ss
  count-told = omega arith

  pub left-told : left_told (last_left n (found ss m)) ≤ n
  left-told = omega arith

pub mark_said_lem : {S i x m : ℕ} → Sector S i → Ends S i x m → mark_said S i x ≡ m
mark_said_lem {S} {i} {x} s (fresh e) = rw (eq-eqb x i e)
mark_said_lem {S} {i} {x} s (used e) = rw (ne_eqb x i (omega arith), eq-eqb x (S - 1) e)
mark_said_lem {S} {i} {x} s (blocked e) = rw (ne_eqb x i (omega arith), ne_eqb x (S - 1) (omega arith))

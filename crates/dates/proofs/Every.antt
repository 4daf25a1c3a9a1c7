-- A rule for each number below a bound, by one test that is computed: the numbers are tried one after the other.
-- Assumes nothing.
use mathlib.Core.Bool.{Bool, true, false, ◌&&◌}
use Prim.Native.Nat.{ℕ, zero, suc, ◌<◌}
use native.Mathlib.Omega.{arith}
use native.Mathlib.Decide.{ℕ_discrete}
use lib.Dec.{T}

-- the test passes for each number below n
abbrev pub every : ℕ → (ℕ → Bool) → Bool
every zero f = true
every (suc n) f = f n && every n f

pub both_left : (a b : Bool) → T (a && b) → T a
both_left true b t = tt
both_left false b t = t

pub both_right : (a b : Bool) → T (a && b) → T b
both_right true b t = t
both_right false b t = absurd t

pub from-every : (n : ℕ) (f : ℕ → Bool) → T (every n f) → (k : ℕ) → k < n → T (f k)
from-every zero f t k h = absurd (omega arith)
from-every (suc n) f t k h =
    elim (ℕ_discrete k n) [
      | yes e ↦ rw e (both_left (f n) (every n f) t)
      | no d ↦ from-every n f (both_right (f n) (every n f) t) k (omega arith)
    ]

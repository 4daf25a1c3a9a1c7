-- The numbers f i, .., f (i + n - 1), one by one. Assumes nothing.
use mathlib.Core.Path.{◌≡◌, refl, ap, ◌∙◌}
use Prim.Native.Nat.{ℕ, zero, suc, ◌+◌, ◌<◌}
use native.Mathlib.Nat.{add-zero}
use native.Mathlib.Omega.{arith}
use lib.ListN.{length, get_or}
use Rattle.reads.specs.Card.{counted}

pub length-counted : (f : ℕ → ℕ) (i n : ℕ) → length (counted f i n) ≡ n
unfolding counted
length-counted f i zero = refl
length-counted f i (suc n) = ap suc (length-counted f (suc i) n)

pub get_or-counted : (f : ℕ → ℕ) (i n k : ℕ) → k < n → get_or (counted f i n) k 0 ≡ f (i + k)
unfolding counted
get_or-counted f i zero k h = absurd (omega arith)
get_or-counted f i (suc n) zero h = rw (add-zero i)
get_or-counted f i (suc n) (suc k) h = get_or-counted f (suc i) n k (omega arith) ∙ ap f (omega arith)

-- An annex: how many elements the two passes over a card's chains consult, step by step as their code goes, in the terms of its contracts: `p j` is the test
-- that entry j is a product. No contract cites it. Assumes nothing.
use Rattle.std.specs.Prelude.{Bool, cond, List, ℕ, zero, suc, ◌+◌, ◌-◌, get_or, set, replicate}
use Rattle.chains.specs.Walk.{Link, end, to, bad, link, walk}
use Rattle.chains.specs.Packed.{last_left, last_told, left_told}
use Rattle.chains.specs.Owners.{follow}

-- one for the sector at hand, and those from the sector that its element names
abbrev pub and_on : Link → (ℕ → ℕ) → ℕ
and_on (end m) on = 1
and_on (to x) on = suc (on x)
and_on (bad w) on = 1

-- a, where the number is 0; and what a makes of the number before it, where it is not
abbrev pub if_zero : ℕ → ℕ → ℕ
if_zero zero a = a
if_zero (suc n) a = 0

abbrev pub unless_zero : ℕ → (ℕ → ℕ) → ℕ
unless_zero zero a = 0
unless_zero (suc n) a = a n

-- the walk from sector i, with n allowed
unfoldable pub of_walk : (ℕ → ℕ) → ℕ → ℕ → ℕ → ℕ
of_walk f S i zero = 0
of_walk f S i (suc n) = and_on (link S i (f i)) (λ x. of_walk f S x n)

-- the first pass over m entries from entry k on, with n allowed: it stops where there is no chain, and where the chain's last sector was seen before
unfoldable pub of_first : (ℕ → Bool) → (ℕ → ℕ) → ℕ → ℕ → ℕ → ℕ → List ℕ → ℕ
of_first p f S zero k n seen = 0
of_first p f S (suc m) k n seen =
    cond (p k)
    (of_walk f S k n
    + unless_zero (last_left n (walk f S k n)) (λ l. if_zero (get_or seen (last_told (suc l)) 0) (of_first p f S m (suc k) (left_told (suc l)) (set seen (last_told (suc l)) 1))))
    (of_first p f S m (suc k) n seen)

-- entry k's walk from sector i that looks at no sector twice
unfoldable pub of_follow : (ℕ → ℕ) → ℕ → ℕ → ℕ → List ℕ → ℕ → ℕ
of_follow f S k zero owner i = 0
of_follow f S k (suc n) owner i = if_zero (get_or owner i 0) (and_on (link S i (f i)) (λ x. of_follow f S k n (set owner i k) x))

-- the second pass, which stops at a broken chain
unfoldable pub of_second : (ℕ → Bool) → (ℕ → ℕ) → ℕ → ℕ → ℕ → ℕ → List ℕ → ℕ
of_second p f S zero k n owner = 0
of_second p f S (suc m) k n owner =
    cond (p k)
    (of_follow f S k n owner k + unless_zero (follow f S k n owner k).answer (λ l. of_second p f S m (suc k) l (follow f S k n owner k).owner))
    (of_second p f S m (suc k) n owner)

-- both passes over the entries 1, .., e; the second is made only where the first stops
unfoldable pub consulted : (ℕ → Bool) → (ℕ → ℕ) → ℕ → ℕ → Bool → ℕ
consulted p f S e stops = of_first p f S e 1 (S - 3) (replicate 256 0) + cond stops (of_second p f S e 1 (S - 3) (replicate 256 0)) 0

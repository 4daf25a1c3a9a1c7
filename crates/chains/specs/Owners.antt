-- An annex: the walk that looks at no sector twice, for the question which of a card's chains is broken: `owner` has for each sector already met the entry
-- from which it was met, and 0 for each other (document 01, "Sector chains" and the row 10). Assumes nothing.
use Rattle.std.specs.Prelude.{not, List, ℕ, zero, suc, eqb, get_or, set}
use Rattle.chains.specs.Walk.{Link, end, to, bad, link}
use Rattle.chains.specs.Products.{when}

-- 0 where the chain is broken, else one more than the elements still allowed; and the owners then
pub record Followed : Type 0 where
  pub answer : ℕ
  pub owner : List ℕ

abbrev pub stop : ℕ → List ℕ → Followed
stop r owner = record { answer = r; owner = owner }

-- a sector met before, of the owner o: entry k's walk comes back to it, or joins that of a lower entry, which was not broken
abbrev pub again : ℕ → ℕ → ℕ → ℕ
again k o n = when (not (eqb o k)) (suc n)

abbrev pub by_owner : ℕ → Followed → Followed → Followed
by_owner zero new old = new
by_owner (suc o) new old = old

abbrev pub by_link : Link → ℕ → List ℕ → (ℕ → Followed) → Followed
by_link (end m) n owner on = stop (suc n) owner
by_link (to x) n owner on = on x
by_link (bad w) n owner on = stop 0 owner

-- entry k's walk from sector i, with n elements still allowed; where S - 3 were allowed for all entries together, it does not run out of them
unfoldable pub follow : (ℕ → ℕ) → ℕ → ℕ → ℕ → List ℕ → ℕ → Followed
follow f S k zero owner i = by_owner (get_or owner i 0) (stop 0 owner) (stop (again k (get_or owner i 0) zero) owner)
follow f S k (suc n) owner i =
    by_owner (get_or owner i 0) (by_link (link S i (f i)) n (set owner i k) (λ x. follow f S k n (set owner i k) x)) (stop (again k (get_or owner i 0) (suc n)) owner)

-- The two passes over a card's chains consult at most S - 3 elements each: no walk consults more than it takes of those still allowed.
-- Assumes nothing.
use mathlib.Core.Path.{◌≡◌, refl}
use mathlib.Core.Bool.{Bool, true, false, not, cond}
use mathlib.Core.List.{List}
use Prim.Native.Nat.{ℕ, zero, suc, ◌+◌, ◌-◌, ◌*◌, ◌≤◌}
use native.Mathlib.Omega.{arith}
use lib.Dec.{eqb, leb}
use lib.ListN.{length, get_or, set, replicate}
use Rattle.chains.specs.Chain.{Sector, Leads, last, then, last_of}
use Rattle.chains.specs.Walk.{Link, end, to, bad, link, member, walk_on, Walk, found, broken, walk}
use Rattle.chains.specs.Packed.{last_left, last_told, left_told}
use Rattle.chains.specs.Products.{when}
use Rattle.chains.specs.Owners.{stop, again, by_owner, by_link, follow}
use Rattle.chains.specs.Consulted.{and_on, if_zero, unless_zero, of_walk, of_first, of_follow, of_second, consulted}
use Rattle.chains.proofs.Laws.{view, view-end, view-to, walk-leads, walk-short, leads-sectors, last-in}

module _ (p : ℕ → Bool) (f : ℕ → ℕ) (S : ℕ) (top : S ≤ 255) (sector : (j : ℕ) → p j ≡ true → Sector S j) where
  walk-most : (n i : ℕ) → of_walk f S i n ≤ n
  unfolding of_walk
  walk-most zero i = omega arith
  walk-most (suc n) i = go (link S i (f i)) (walk-most n)
    where
      go : (l : Link) → ((x : ℕ) → of_walk f S x n ≤ n) → and_on l (λ x. of_walk f S x n) ≤ suc n
      go (end m) ih = omega arith
      go (to x) ih = omega (arith, ih x)
      go (bad w) ih = omega arith

  walk-chain : {i m : ℕ} {ss : List ℕ} → Sector S i → Leads f S i ss m → (n : ℕ) → length ss ≤ n → of_walk f S i n ≡ length ss
  unfolding of_walk
  walk-chain s (last a) zero l = absurd (omega arith)
  walk-chain {i} s (last a) (suc n) l = rw (view-end s (view S i (f i)) a)
  walk-chain s (then a q) zero l = absurd (omega arith)
  walk-chain {i} s (then a q) (suc n) l = rw (view-to s (view S i (f i)) a, walk-chain a.sector q n (omega arith))

  -- what it consults and what it leaves are no more than what was allowed
  walk-takes : {k : ℕ} → Sector S k → (n : ℕ) → of_walk f S k n + left_told (last_left n (walk f S k n)) ≤ n
  walk-takes {k} s n = go (walk f S k n) refl
    where
      go : (w : Walk) → walk f S k n ≡ w → of_walk f S k n + left_told (last_left n w) ≤ n
      go (found ss m) e =
          let q = walk-leads f S n k ss m e in
          let l = walk-short f S n k ss m e in
          let b = leads-sectors f S s q (last_of ss) (last-in f S q) in
          let z = walk-chain s q n l in
          omega arith
      go (broken b) e = omega (arith, walk-most n k)

  first-most : (m k n : ℕ) (seen : List ℕ) → of_first p f S m k n seen ≤ n
  unfolding of_first
  first-most zero k n seen = omega arith
  first-most (suc m) k n seen = go (p k) refl (first-most m (suc k))
    where
      rest : (o : ℕ) {a b : ℕ} → a ≤ b → if_zero o a ≤ b
      rest zero h = h
      rest (suc o) h = omega arith

      after : (r : ℕ) → ((n : ℕ) (seen : List ℕ) → of_first p f S m (suc k) n seen ≤ n)
          → unless_zero r (λ l. if_zero (get_or seen (last_told (suc l)) 0) (of_first p f S m (suc k) (left_told (suc l)) (set seen (last_told (suc l)) 1))) ≤ left_told r
      after zero ih = omega arith
      after (suc l) ih = rest (get_or seen (last_told (suc l)) 0) (ih (left_told (suc l)) (set seen (last_told (suc l)) 1))

      go : (b : Bool) → p k ≡ b → ((n : ℕ) (seen : List ℕ) → of_first p f S m (suc k) n seen ≤ n)
          → cond b (of_walk f S k n + unless_zero (last_left n (walk f S k n)) (λ l. if_zero (get_or seen (last_told (suc l)) 0) (of_first p f S m (suc k) (left_told (suc l)) (set seen (last_told (suc l)) 1)))) (of_first p f S m (suc k) n seen) ≤ n
      go true e ih = omega (arith, walk-takes (sector k e) n, after (last_left n (walk f S k n)) ih)
      go false e ih = ih n seen

  -- the same of the walk that looks at no sector twice
  again-most : (k o n : ℕ) → again k o n - 1 ≤ n
  again-most k o n = go (not (eqb o k))
    where
      go : (b : Bool) → when b (suc n) - 1 ≤ n
      go true = omega arith
      go false = omega arith

  follow-takes : (k n : ℕ) (owner : List ℕ) (i : ℕ) → of_follow f S k n owner i + ((follow f S k n owner i).answer - 1) ≤ n
  unfolding of_follow follow
  follow-takes k zero owner i = go (get_or owner i 0)
    where
      go : (o : ℕ) → 0 + ((by_owner o (stop 0 owner) (stop (again k o 0) owner)).answer - 1) ≤ 0
      go zero = omega arith
      go (suc o) = omega (arith, again-most k (suc o) 0)
  follow-takes k (suc n) owner i = go (get_or owner i 0) (link S i (f i)) (follow-takes k n (set owner i k))
    where
      go : (o : ℕ) (l : Link) → ((x : ℕ) → of_follow f S k n (set owner i k) x + ((follow f S k n (set owner i k) x).answer - 1) ≤ n)
          → if_zero o (and_on l (λ x. of_follow f S k n (set owner i k) x)) + ((by_owner o (by_link l n (set owner i k) (λ x. follow f S k n (set owner i k) x)) (stop (again k o (suc n)) owner)).answer - 1) ≤ suc n
      go zero (end m) ih = omega arith
      go zero (to x) ih = omega (arith, ih x)
      go zero (bad w) ih = omega arith
      go (suc o) l ih = omega (arith, again-most k (suc o) (suc n))

  second-most : (m k n : ℕ) (owner : List ℕ) → of_second p f S m k n owner ≤ n
  unfolding of_second
  second-most zero k n owner = omega arith
  second-most (suc m) k n owner = go (p k) refl (second-most m (suc k))
    where
      rest : (r : ℕ) (on : ℕ → ℕ) → ((l : ℕ) → on l ≤ l) → unless_zero r on ≤ r - 1
      rest zero on h = omega arith
      rest (suc l) on h = omega (arith, h l)

      go : (b : Bool) → p k ≡ b → ((n : ℕ) (owner : List ℕ) → of_second p f S m (suc k) n owner ≤ n)
          → cond b (of_follow f S k n owner k + unless_zero (follow f S k n owner k).answer (λ l. of_second p f S m (suc k) l (follow f S k n owner k).owner)) (of_second p f S m (suc k) n owner) ≤ n
      go true e ih =
          let w = follow f S k n owner k in
          omega (arith, follow-takes k n owner k, rest w.answer (λ l. of_second p f S m (suc k) l w.owner) (λ l. ih l w.owner))
      go false e ih = ih n owner

  -- both passes together
  pub consulted-most : (e : ℕ) (stops : Bool) → consulted p f S e stops ≤ 2 * (S - 3)
  unfolding consulted
  consulted-most e true = omega (arith, first-most e 1 (S - 3) (replicate 256 0), second-most e 1 (S - 3) (replicate 256 0))
  consulted-most e false = omega (arith, first-most e 1 (S - 3) (replicate 256 0))

-- four sectors in one line, which two entries share: the first pass consults all four elements and the second all four again
line : ℕ → ℕ
line i = cond (eqb i 4) 6 (i + 1)

met : consulted (λ j. leb j 2) line 7 2 true ≡ 8
unfolding line consulted of_first of_second of_walk of_follow follow walk_on member link
met = refl

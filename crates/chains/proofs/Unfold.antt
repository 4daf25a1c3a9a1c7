-- One step of a walk, by what is told of the element. Assumes nothing.
use mathlib.Core.Path.{◌≡◌, refl, ap, ◌∙◌}
use mathlib.Core.Logic.{◌≢◌}
use mathlib.Core.List.{List, [], ◌∷◌}
use Prim.Native.Nat.{ℕ, zero, suc, ◌+◌, ◌-◌, ◌*◌}
use native.Mathlib.Omega.{arith}
use native.Mathlib.Numerals.{add-one, sub-one}
use lib.ListN.{get_or, set}
use borrow.Author.Tests.{eq-eqb, ne_eqb}
use Rattle.chains.specs.Chain.{Sector, Names, Leads}
use Rattle.chains.specs.Walk.{Link, end, to, bad, link, member, past, Walk, found, broken, after, on_link, walk_on, walk}
use Rattle.chains.specs.Ended.{link_told}
use Rattle.chains.specs.declared.packed.Link.TheVariants.{Next, Last, Broken}
use Rattle.chains.specs.Packed.{last_left}
use Rattle.chains.specs.Owners.{stop, again, by_link, follow}
use Rattle.chains.proofs.Laws.{View, v_end, v_to, v_bad, view, walk-on-finds, walk-on-leads, no_return, walk-finds, walk-leads, walk-short, last_cons}
use Rattle.chains.proofs.Links.{told-bad, told-last, told-next}

-- the walk's number, by what the first element says; `rest x` is the number from sector x on with one fewer allowed
abbrev on_last : ℕ → ℕ → Link → (ℕ → ℕ) → ℕ
on_last i n (end m) rest = i + 256 * n
on_last i n (to x) rest = rest x
on_last i n (bad w) rest = 0

module _ (f : ℕ → ℕ) (S i : ℕ) where
  -- a chain does not come back, so that the walk from the next sector finds the same whether or not sector i counts as passed
  same_left : Sector S i → Names S i (f i) → (n : ℕ) → last_left n (walk f S (f i) n) ≡ last_left n (walk_on f S (i ∷ []) (f i) n)
  same_left s a n = go (walk f S (f i) n) refl
    where
      go : (w : Walk) → walk f S (f i) n ≡ w → last_left n w ≡ last_left n (walk_on f S (i ∷ []) (f i) n)
      go (found ss m) e =
          let p = walk-leads f S n (f i) ss m e in
          rw (walk-on-finds f S (i ∷ []) a.sector p (no_return f S [] s a p (λ c. c.2)) n (walk-short f S n (f i) ss m e))
      go (broken b) e = inner (walk_on f S (i ∷ []) (f i) n) refl
        where
          inner : (w : Walk) → walk_on f S (i ∷ []) (f i) n ≡ w → 0 ≡ last_left n w
          inner (found ss m) q =
              let r = walk-on-leads f S n (i ∷ []) (f i) ss m q in
              absurd (let z : ◌≡◌ {A = ℕ} 0 1 = cc (walk-finds f S a.sector r.0 n r.1) in omega arith)
          inner (broken d) q = refl

  last-link : Sector S i → (n : ℕ) → n ≢ 0 → on_last i n (link S i (f i)) (λ x. last_left (n - 1) (walk f S x (n - 1))) ≡ last_left n (walk f S i n)
  unfolding walk_on member
  last-link s zero h = absurd (h refl)
  last-link s (suc n) h = rw sub-one (go (view S i (f i)))
    where
      one : (w : Walk) → ((ss : List ℕ) (m : ℕ) → w ≡ found ss m → Leads f S (f i) ss m) → last_left n w ≡ last_left (suc n) (after i w)
      one (found ss m) q = rw (last_cons f S (q ss m refl) i) (omega arith)
      one (broken b) q = refl

      go : {l : Link} → View S i (f i) l → on_last i (suc n) l (λ x. last_left n (walk_on f S [] x n)) ≡ last_left (suc n) (on_link [] i (past [] l) (λ x. walk_on f S (i ∷ []) x n))
      go (v_end a) = omega arith
      go (v_to a) = same_left s a n ∙ one (walk_on f S (i ∷ []) (f i) n) (λ ss m q. (walk-on-leads f S n (i ∷ []) (f i) ss m q).0)
      go (v_bad b) = refl

  -- none is allowed
  pub stop-none : (n : ℕ) → n ≡ 0 → 0 ≡ last_left n (walk f S i n)
  unfolding walk_on
  stop-none n e = rw e

  module _ (n x : ℕ) (s : Sector S i) (some : n ≢ 0) (e : x ≡ f i) where
    by : {r : ℕ} → r ≡ on_last i n (link S i x) (λ y. last_left (n - 1) (walk f S y (n - 1))) → r ≡ last_left n (walk f S i n)
    by q = q ∙ ap (λ (y : ℕ). on_last i n (link S i y) (λ z. last_left (n - 1) (walk f S z (n - 1)))) e ∙ last-link s n some

    -- the element is bad, ends the chain, or names the next sector
    pub stop-bad : Broken ≡ link_told (link S i x) → 0 ≡ last_left n (walk f S i n)
    stop-bad h = by (rw (told-bad (link S i x) h).1)

    pub stop-end : Last ≡ link_told (link S i x) → i + 256 * n ≡ last_left n (walk f S i n)
    stop-end h = by (rw (told-last (link S i x) h).1)

    pub goes_on : {y : ℕ} → Next y ≡ link_told (link S i x) → {r : ℕ} → r ≡ last_left (n - 1) (walk f S y (n - 1)) → r ≡ last_left n (walk f S i n)
    goes_on h q = by (q ∙ rw (told-next (link S i x) h))

-- the same of the walk that looks at no sector twice
module _ (f : ℕ → ℕ) (S k n : ℕ) (owner : List ℕ) (i : ℕ) where
  module _ (free : get_or owner i 0 ≡ 0) where
    pub follow-none : n ≡ 0 → stop 0 owner ≡ follow f S k n owner i
    unfolding follow
    follow-none e = rw (e, free)

    module _ (x : ℕ) (some : n ≢ 0) (e : x ≡ f i) where
      unfolded : by_link (link S i x) (n - 1) (set owner i k) (λ y. follow f S k (n - 1) (set owner i k) y) ≡ follow f S k n owner i
      unfolding follow
      unfolded = go n some
        where
          go : (n : ℕ) → n ≢ 0 → by_link (link S i x) (n - 1) (set owner i k) (λ y. follow f S k (n - 1) (set owner i k) y) ≡ follow f S k n owner i
          go zero h = absurd (h refl)
          go (suc l) h = rw (sub-one, free, e)

      pub follow-bad : Broken ≡ link_told (link S i x) → stop 0 (set owner i k) ≡ follow f S k n owner i
      follow-bad h = rw (← unfolded, (told-bad (link S i x) h).1)

      pub follow-end : Last ≡ link_told (link S i x) → stop (n - 1 + 1) (set owner i k) ≡ follow f S k n owner i
      follow-end h = rw (← unfolded, (told-last (link S i x) h).1, add-one)

      pub follow-on : {y : ℕ} → Next y ≡ link_told (link S i x) → follow f S k (n - 1) (set owner i k) y ≡ follow f S k n owner i
      follow-on h = rw (← unfolded, told-next (link S i x) h)

  module _ (met : get_or owner i 0 ≢ 0) where
    unfolded-met : stop (again k (get_or owner i 0) n) owner ≡ follow f S k n owner i
    unfolding follow
    unfolded-met = go n (get_or owner i 0) refl met
      where
        go : (n o : ℕ) → get_or owner i 0 ≡ o → o ≢ 0 → stop (again k o n) owner ≡ follow f S k n owner i
        go n zero e h = absurd (h refl)
        go zero (suc o) e h = rw e
        go (suc n) (suc o) e h = rw e

    pub follow-back : get_or owner i 0 ≡ k → stop 0 owner ≡ follow f S k n owner i
    follow-back e = rw (← unfolded-met, eq-eqb (get_or owner i 0) k e)

    pub follow-joins : get_or owner i 0 ≢ k → stop (n + 1) owner ≡ follow f S k n owner i
    follow-joins d = rw (← unfolded-met, ne_eqb (get_or owner i 0) k d, add-one)

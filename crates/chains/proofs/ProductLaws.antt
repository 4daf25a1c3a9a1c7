-- The tests of 10 and 11 say what the plain words say, because the walk finds exactly the chain; two chains share a sector exactly where
-- they end in the same one, so that the last sectors alone decide; and chains that share none have at most S - 3 sectors together.
-- Assumes nothing.
use mathlib.Core.Path.{◌≡◌, refl, sym, ◌∙◌}
use mathlib.Core.Logic.{◌≢◌, ◌↔◌, ◌⊎◌, inl, inr, ⊎_elim}
use mathlib.Core.Bool.{Bool, true, false, ◌&&◌, ◌||◌, false≢true}
use mathlib.Core.List.{List, [], ◌∷◌}
use Prim.Native.Nat.{ℕ, zero, suc, ◌-◌, ◌≤◌, ◌<◌}
use native.Mathlib.Omega.{arith}
use native.Mathlib.Decide.{dec_lt, ℕ_discrete}
use lib.ListN.{length}
use Rattle.chains.specs.Chain.{Sector, In, Common, Chain, last_of, Broken, Shares}
use Rattle.chains.specs.Walk.{Walk, found, broken, walk, member}
use Rattle.chains.specs.Products.{Chained, Disjoint, chain_at, sectors_of, mark_of, is_broken, broken_at, meet, some, shares_at, when, last_in, last_at, count_at}
use Rattle.chains.proofs.Members.{or-true, true-or, member_in, in-member}
use Rattle.chains.proofs.Laws.{found-chain, broken-none, common-last, chain-sectors, last-in, last-ends}
use Rattle.chains.proofs.Told.{mark_said_lem}
use Rattle.chains.specs.Packed.{mark_said}

-- ---- tests

and-true : (a b : Bool) → (a && b) ≡ true → (a ≡ true) × (b ≡ true)
and-true true b e = (refl, e)
and-true false b e = absurd (false≢true e)

some_true : (n : ℕ) (t : ℕ → Bool) → some n t ≡ true → (i : ℕ) × (i < n) × (t i ≡ true)
unfolding some
some_true zero t e = absurd (false≢true e)
some_true (suc n) t e = go (or-true (some n t) (t n) e) (some_true n t)
  where
    go : (some n t ≡ true) ⊎ (t n ≡ true) → (some n t ≡ true → (i : ℕ) × (i < n) × (t i ≡ true)) → (i : ℕ) × (i < suc n) × (t i ≡ true)
    go (inl a) ih = let r = ih a in (r.0, omega (arith, r.1), r.2)
    go (inr a) ih = (n, omega arith, a)

true-some : (n : ℕ) (t : ℕ → Bool) (i : ℕ) → i < n → t i ≡ true → some n t ≡ true
unfolding some
true-some zero t i h e = absurd (omega arith)
true-some (suc n) t i h e = go (dec_lt i n) (true-some n t i)
  where
    go : Dec (i < n) → (i < n → t i ≡ true → some n t ≡ true) → (some n t || t n) ≡ true
    go (yes l) ih = rw (ih l e)
    go (no l) ih = let q : i ≡ n = omega arith in rw (← q, e, true-or)

meet-common : (xs ys : List ℕ) → meet xs ys ≡ true → Common xs ys
unfolding meet
meet-common [] ys e = absurd (false≢true e)
meet-common (x ∷ xs) ys e =
    ⊎_elim (λ a. (x, inl refl, member_in x ys a)) (λ a. let r = meet-common xs ys a in (r.0, inr r.1, r.2)) (or-true (member x ys) (meet xs ys) e)

common-meet : (xs ys : List ℕ) → Common xs ys → meet xs ys ≡ true
unfolding meet
common-meet [] ys h = absurd h.1
common-meet (x ∷ xs) ys h = go h.1 (common-meet xs ys)
  where
    go : (h.0 ≡ x) ⊎ In h.0 xs → (Common xs ys → meet xs ys ≡ true) → (member x ys || meet xs ys) ≡ true
    go (inl e) ih = rw (in-member x ys (rw e at h.2))
    go (inr i) ih = rw (ih (h.0, i, h.2), true-or)

-- what `at` gives at k, no 0, it gives at a lower number too
pub record Meets (at : ℕ → ℕ) (k : ℕ) : Type 0 where
  pub lower : ℕ
  pub low : 1 ≤ lower
  pub below : lower < k
  pub same : at lower ≡ at k
  pub some : at k ≢ 0

-- product j has a chain, and this is where it ends
pub record Ended (P : ℕ → Type 0) (f : ℕ → ℕ) (S j last : ℕ) : Type 0 where
  pub is-product : P j
  pub sectors : List ℕ
  pub mark : ℕ
  pub chain : Chain f S j sectors mark
  pub ends : last ≡ last_of sectors

-- the test p of being a product is right, and a product's number is that of a sector
pub record Tested (P : ℕ → Type 0) (p : ℕ → Bool) (S : ℕ) : Type 0 where
  pub so : (j : ℕ) → p j ≡ true → P j
  pub test : (j : ℕ) → P j → p j ≡ true
  pub sector : (j : ℕ) → P j → Sector S j

module _ {P : ℕ → Type 0} {p : ℕ → Bool} {S : ℕ} (t : Tested P p S) (f : ℕ → ℕ) where
  -- ---- 10

  pub broken-so : (j : ℕ) → broken_at p f S j ≡ true → Broken P f S j
  unfolding broken_at
  broken-so j e =
      let x = and-true (p j) (is_broken (chain_at f S j)) e in
      go (t.so j x.0) (walk f S j (S - 3)) refl x.1
    where
      go : P j → (w : Walk) → walk f S j (S - 3) ≡ w → is_broken w ≡ true → Broken P f S j
      go v (found ss m) q b = absurd (false≢true b)
      go v (broken d) q b = record { is-product = v; none = (broken-none f S (t.sector _ v)).0 (d, q) }

  pub so-broken : (j : ℕ) → Broken P f S j → broken_at p f S j ≡ true
  unfolding broken_at
  so-broken j b = rw (t.test j b.is-product, ((broken-none f S (t.sector _ b.is-product)).1 b.none).1)

  -- every product has a chain exactly where none is broken
  pub chained-none : Chained P f S ↔ ((j : ℕ) → Broken P f S j → ⊥)
  chained-none = ((λ h j b. let r = h j b.is-product in b.none r.0 r.1 r.2), λ h j v. go j v (h j) (walk f S j (S - 3)) refl)
    where
      go : (j : ℕ) → P j → (Broken P f S j → ⊥) → (w : Walk) → walk f S j (S - 3) ≡ w → (ss : List ℕ) × (m : ℕ) × Chain f S j ss m
      go j v h (found ss m) q = (ss, m, (found-chain f S (t.sector _ v)).0 q)
      go j v h (broken d) q = absurd (h (record { is-product = v; none = (broken-none f S (t.sector _ v)).0 (d, q) }))

  -- ---- 11

  -- the sectors of a product's chain, where there are any
  sectors-so : (j x : ℕ) → P j → In x (sectors_of (chain_at f S j)) → (m : ℕ) × Chain f S j (sectors_of (chain_at f S j)) m
  sectors-so j x v h = go (walk f S j (S - 3)) refl h
    where
      go : (w : Walk) → walk f S j (S - 3) ≡ w → In x (sectors_of w) → (m : ℕ) × Chain f S j (sectors_of w) m
      go (found ss m) q i = (m, (found-chain f S (t.sector _ v)).0 q)
      go (broken d) q i = absurd i

  pub so-sectors : {j m : ℕ} {ss : List ℕ} → P j → Chain f S j ss m → sectors_of (chain_at f S j) ≡ ss
  so-sectors v d = rw ((found-chain f S (t.sector _ v)).1 d)

  pub shares-so : (k : ℕ) → shares_at p f S k ≡ true → Shares P f S k
  unfolding shares_at
  shares-so k e =
      let x = and-true (p k) (some k (λ j. p j && meet (sectors_of (chain_at f S j)) (sectors_of (chain_at f S k)))) e in
      let y = some_true k (λ j. p j && meet (sectors_of (chain_at f S j)) (sectors_of (chain_at f S k))) x.1 in
      let z = and-true (p y.0) (meet (sectors_of (chain_at f S y.0)) (sectors_of (chain_at f S k))) y.2 in
      let v = t.so y.0 z.0 in
      let w = t.so k x.0 in
      let h = meet-common (sectors_of (chain_at f S y.0)) (sectors_of (chain_at f S k)) z.1 in
      let d = sectors-so y.0 h.0 v h.1 in
      let g = sectors-so k h.0 w h.2 in
      record {
        lower = y.0;
        below = y.1;
        product_lower = v;
        product_k = w;
        sectors = sectors_of (chain_at f S y.0);
        mark = d.0;
        sectors_k = sectors_of (chain_at f S k);
        mark_k = g.0;
        chain = d.1;
        chain_k = g.1;
        common = h;
      }

  pub so-shares : (k : ℕ) → Shares P f S k → shares_at p f S k ≡ true
  unfolding shares_at
  so-shares k s =
      let q : meet (sectors_of (chain_at f S s.lower)) (sectors_of (chain_at f S k)) ≡ true =
      rw (so-sectors s.product_lower s.chain, so-sectors s.product_k s.chain_k) (common-meet s.sectors s.sectors_k s.common) in
      rw (t.test k s.product_k, true-some k (λ j. p j && meet (sectors_of (chain_at f S j)) (sectors_of (chain_at f S k))) s.lower s.below (rw (t.test s.lower s.product_lower, q)))

  -- no two products share a sector exactly where none shares with a lower one
  pub disjoint-none : Disjoint P f S ↔ ((k : ℕ) → Shares P f S k → ⊥)
  disjoint-none =
      ((λ h k s. h s.lower k s.product_lower s.product_k (λ e. omega (arith, e, s.below)) s.sectors s.sectors_k s.mark s.mark_k s.chain s.chain_k s.common), there)
    where
      share : (j k : ℕ) → j < k → P j → P k → (ss ts : List ℕ) (m n : ℕ) → Chain f S j ss m → Chain f S k ts n → Common ss ts → Shares P f S k
      share j k l v w ss ts m n c d h = record { lower = j; below = l; product_lower = v; product_k = w; sectors = ss; mark = m; sectors_k = ts; mark_k = n; chain = c; chain_k = d; common = h }

      there : ((k : ℕ) → Shares P f S k → ⊥) → Disjoint P f S
      there free j k v w d ss ts m n a b h = elim (dec_lt j k) [
        | yes l ↦ free k (share j k l v w ss ts m n a b h)
        | no l ↦ free j (share k j (omega arith) w v ts ss n m b a (h.0, h.2, h.1))
      ]

  -- ---- by the last sectors

  chain-last : {j m : ℕ} {ss : List ℕ} → Sector S j → Chain f S j ss m → Sector S (last_of ss)
  chain-last {ss = ss} s d = chain-sectors f S s d (last_of ss) (last-in f S d.leads)

  product-last : {j m : ℕ} {ss : List ℕ} → P j → Chain f S j ss m → last_at p f S j ≡ last_of ss
  unfolding last_at
  product-last {j} v d = rw (t.test j v, (found-chain f S (t.sector _ v)).1 d)

  last-product : (j : ℕ) → last_at p f S j ≢ 0 → Ended P f S j (last_at p f S j)
  unfolding last_at
  last-product j h = go (p j) refl h
    where
      go : (b : Bool) → p j ≡ b → when b (last_in (walk f S j (S - 3))) ≢ 0 → Ended P f S j (when b (last_in (walk f S j (S - 3))))
      go false e h = absurd (h refl)
      go true e h = inner (walk f S j (S - 3)) refl h
        where
          inner : (w : Walk) → walk f S j (S - 3) ≡ w → last_in w ≢ 0 → Ended P f S j (last_in w)
          inner (found ss m) q h = record { is-product = t.so j e; sectors = ss; mark = m; chain = (found-chain f S (t.sector _ (t.so j e))).0 q; ends = refl }
          inner (broken d) q h = absurd (h refl)

  -- where every product has a chain, every product ends somewhere
  pub last_some : Chained P f S → {j : ℕ} → P j → last_at p f S j ≢ 0
  last_some all {j} v z = let d = all j v in omega (arith, product-last v d.2, z, (chain-last (t.sector _ v) d.2).low)

  pub last-small : (j : ℕ) → last_at p f S j ≤ S - 3
  last-small j = elim (ℕ_discrete (last_at p f S j) 0) [
    | yes e ↦ omega arith
    | no h ↦ let d = last-product j h in omega (arith, d.ends, (chain-last (t.sector _ d.is-product) d.chain).high)
  ]

  pub shares-meets : (k : ℕ) → shares_at p f S k ≡ true → Meets (last_at p f S) k
  shares-meets k e =
      let h = shares-so k e in
      let x = product-last h.product_lower h.chain in
      let y = product-last h.product_k h.chain_k in
      record {
        lower = h.lower;
        low = (t.sector _ h.product_lower).low;
        below = h.below;
        same = x ∙ (common-last f S (t.sector _ h.product_lower) h.chain h.chain_k).0 h.common ∙ sym y;
        some = λ e. omega (arith, y, e, (chain-last (t.sector _ h.product_k) h.chain_k).low);
      }

  pub meets-shares : (k : ℕ) → Meets (last_at p f S) k → shares_at p f S k ≡ true
  meets-shares k h =
      let d = last-product k h.some in
      let g = last-product h.lower (λ e. h.some (sym h.same ∙ e)) in
      so-shares k
      (record {
        lower = h.lower;
        below = h.below;
        product_lower = g.is-product;
        product_k = d.is-product;
        sectors = g.sectors;
        mark = g.mark;
        sectors_k = d.sectors;
        mark_k = d.mark;
        chain = g.chain;
        chain_k = d.chain;
        common = (common-last f S (t.sector _ g.is-product) g.chain d.chain).1 (sym g.ends ∙ h.same ∙ d.ends);
      })

  -- what is no product is not broken, and ends nowhere
  pub no_product : (j : ℕ) → p j ≡ false → (broken_at p f S j ≡ false) × (last_at p f S j ≡ 0) × (count_at p f S j ≡ 0)
  unfolding broken_at last_at count_at
  no_product j e = (rw e, rw e, rw e)

  -- ---- what is told of a product

  -- its chain's last sector, the number of its sectors, and its mark, which the last sector's element has
  pub record Told (j : ℕ) : Type 0 where
    pub is-product : p j ≡ true
    pub sector : Sector S (last_at p f S j)
    pub last-is : last_at p f S j ≡ last_of (sectors_of (chain_at f S j))
    pub count-is : count_at p f S j ≡ length (sectors_of (chain_at f S j))
    pub mark-is : mark_said S (last_at p f S j) (f (last_at p f S j)) ≡ mark_of (chain_at f S j)

  pub told : (j : ℕ) → last_at p f S j ≢ 0 → Told j
  unfolding count_at
  told j h =
      let d = last-product j h in
      let v = t.test j d.is-product in
      let s = t.sector j d.is-product in
      let q = (found-chain f S s).1 d.chain in
      let l = chain-last s d.chain in
      record {
        is-product = v;
        sector = rw d.ends l;
        last-is = rw q d.ends;
        count-is = rw v;
        mark-is = rw (d.ends, q) (mark_said_lem l (last-ends f S d.chain.leads));
      }

-- The laws of chains: the walk finds exactly the chain; a chain is unique, passes no sector twice and has at most S - 3 sectors; two chains
-- have a sector in common exactly when they end in the same one; and a new mark changes the chain's mark alone.
-- Assumes nothing.
use mathlib.Core.Path.{◌≡◌, refl, sym, ap, subst, ◌∙◌}
use mathlib.Core.Logic.{◌≢◌, ◌↔◌, inl, inr, ⊎_elim}
use mathlib.Core.List.{List, [], ◌∷◌}
use mathlib.Core.Bool.{Bool, true, false}
use Prim.Native.Nat.{ℕ, zero, suc, ◌-◌, ◌≤◌}
use native.Mathlib.Omega.{arith}
use lib.ListN.{length}
use lib.Dec.{eqb, leb}
use borrow.Author.Tests.{eqb-true, eqb-false, leb-true, leb-false}
use Rattle.chains.specs.Chain.{Sector, Ends, fresh, used, blocked, Names, Leads, last, then, In, Distinct, Chain, NoChain, Common, last_of}
use Rattle.chains.specs.Breaks.{Fault, Bad, zero_met, above_met, comes_back, is_zero, is_above, is_passed, Break}
use Rattle.chains.specs.Walk.{Link, end, to, bad, pick_link, link, member, past, Walk, found, broken, after, on_link, walk_on, walk}
use Rattle.chains.proofs.Members.{not-member, in-or-not}
use Rattle.chains.proofs.Distinct.{few}

-- ---- what an element says

-- what `link` says of an element is what the element is
pub data View (S i x : ℕ) : Link → Type 0 where
  v_end : {m : ℕ} → Ends S i x m → View S i x (end m)
  v_to : Names S i x → View S i x (to x)
  v_bad : {w : Fault} → Bad S [] x w → View S i x (bad w)

pub view : (S i x : ℕ) → View S i x (link S i x)
unfolding link
view S i x = go (eqb x i) refl (eqb x (S - 1)) refl (eqb x (S - 2)) refl (leb 1 x) refl (leb x (S - 3)) refl
  where
    go : (b₁ : Bool) → eqb x i ≡ b₁ → (b₂ : Bool) → eqb x (S - 1) ≡ b₂ → (b₃ : Bool) → eqb x (S - 2) ≡ b₃ → (b₄ : Bool) → leb 1 x ≡ b₄ → (b₅ : Bool) → leb x (S - 3) ≡ b₅
        → View S i x (pick_link b₁ (end 0) (pick_link b₂ (end 1) (pick_link b₃ (end 2) (pick_link b₄ (pick_link b₅ (to x) (bad is_above)) (bad is_zero)))))
    go true e₁ b₂ e₂ b₃ e₃ b₄ e₄ b₅ e₅ = v_end (fresh (eqb-true x i e₁))
    go false e₁ true e₂ b₃ e₃ b₄ e₄ b₅ e₅ = v_end (used (eqb-true x (S - 1) e₂))
    go false e₁ false e₂ true e₃ b₄ e₄ b₅ e₅ = v_end (blocked (eqb-true x (S - 2) e₃))
    go false e₁ false e₂ false e₃ true e₄ true e₅ =
        v_to (record { other = eqb-false x i e₁; sector = record { low = leb-true 1 x e₄; high = leb-true x (S - 3) e₅ } })
    go false e₁ false e₂ false e₃ true e₄ false e₅ =
        let p = eqb-false x (S - 1) e₂ in
        let q = eqb-false x (S - 2) e₃ in
        v_bad (above_met (omega (arith, leb-false x (S - 3) e₅)))
    go false e₁ false e₂ false e₃ false e₄ b₅ e₅ = v_bad (zero_met (omega (arith, leb-false 1 x e₄)))

module _ {S i x : ℕ} (s : Sector S i) where
  pub one-mark : {m n : ℕ} → Ends S i x m → Ends S i x n → m ≡ n
  one-mark (fresh p) (fresh q) = refl
  one-mark (fresh p) (used q) = absurd (omega arith)
  one-mark (fresh p) (blocked q) = absurd (omega arith)
  one-mark (used p) (fresh q) = absurd (omega arith)
  one-mark (used p) (used q) = refl
  one-mark (used p) (blocked q) = absurd (omega arith)
  one-mark (blocked p) (fresh q) = absurd (omega arith)
  one-mark (blocked p) (used q) = absurd (omega arith)
  one-mark (blocked p) (blocked q) = refl

  pub ends-or-names : {m : ℕ} → Ends S i x m → Names S i x → ⊥
  ends-or-names (fresh p) n = n.other p
  ends-or-names (used p) n = omega arith
  ends-or-names (blocked p) n = omega arith

  pub ends-or-bad : {m : ℕ} {w : Fault} → Ends S i x m → Bad S [] x w → ⊥
  ends-or-bad (fresh p) (zero_met e) = omega arith
  ends-or-bad (fresh p) (above_met h) = omega arith
  ends-or-bad (used p) (zero_met e) = omega arith
  ends-or-bad (used p) (above_met h) = omega arith
  ends-or-bad (blocked p) (zero_met e) = omega arith
  ends-or-bad (blocked p) (above_met h) = omega arith
  ends-or-bad e (comes_back h) = absurd h

  pub names-or-bad : {w : Fault} → Names S i x → Bad S [] x w → ⊥
  names-or-bad n (zero_met e) = omega arith
  names-or-bad n (above_met h) = omega arith
  names-or-bad n (comes_back h) = absurd h

  one-fault : {v w : Fault} → Bad S [] x v → Bad S [] x w → v ≡ w
  one-fault (zero_met e) (zero_met q) = refl
  one-fault (zero_met e) (above_met h) = absurd (omega arith)
  one-fault (zero_met e) (comes_back h) = absurd h
  one-fault (above_met h) (zero_met e) = absurd (omega arith)
  one-fault (above_met h) (above_met q) = refl
  one-fault (above_met h) (comes_back q) = absurd q
  one-fault (comes_back h) b = absurd h

  pub view-end : {l : Link} {m : ℕ} → View S i x l → Ends S i x m → l ≡ end m
  view-end (v_end a) e = ap end (one-mark a e)
  view-end (v_to n) e = absurd (ends-or-names e n)
  view-end (v_bad b) e = absurd (ends-or-bad e b)

  pub view-to : {l : Link} → View S i x l → Names S i x → l ≡ to x
  view-to (v_end a) n = absurd (ends-or-names a n)
  view-to (v_to _) n = refl
  view-to (v_bad b) n = absurd (names-or-bad n b)

  pub view-bad : {l : Link} {w : Fault} → View S i x l → Bad S [] x w → l ≡ bad w
  view-bad (v_end a) b = absurd (ends-or-bad a b)
  view-bad (v_to n) b = absurd (names-or-bad n b)
  view-bad (v_bad a) b = ap bad (one-fault a b)

-- ---- where the elements lead

module _ (f : ℕ → ℕ) (S : ℕ) where
  pub leads-unique : {i m n : ℕ} {ss ts : List ℕ} → Sector S i → Leads f S i ss m → Leads f S i ts n → (ss ≡ ts) × (m ≡ n)
  leads-unique s (last a) (last b) = (refl, one-mark s a b)
  leads-unique s (last a) (then b q) = absurd (ends-or-names s a b)
  leads-unique s (then a p) (last b) = absurd (ends-or-names s b a)
  leads-unique {i} s (then a p) (then b q) =
      let ih = leads-unique a.sector p q in
      (ap {B = List ℕ} (λ l. i ∷ l) ih.0, ih.1)

  pub leads-sectors : {i m : ℕ} {ss : List ℕ} → Sector S i → Leads f S i ss m → (x : ℕ) → In x ss → Sector S x
  leads-sectors s (last a) x (inl p) = subst (λ (k : ℕ). Sector S k) (sym p) s
  leads-sectors s (last {i = i} {m = m} a) x (inr p) = elim p [ ]
  leads-sectors s (then a q) x (inl p) = subst (λ (k : ℕ). Sector S k) (sym p) s
  leads-sectors s (then a q) x (inr p) = leads-sectors a.sector q x p

  -- what stands before a chain's sectors does not change the last
  pub last_cons : {i m : ℕ} {ss : List ℕ} → Leads f S i ss m → (k : ℕ) → last_of (k ∷ ss) ≡ last_of ss
  last_cons (last a) k = refl
  last_cons (then a p) k = refl

  pub first_in : {i m : ℕ} {ss : List ℕ} → Leads f S i ss m → In i ss
  first_in (last a) = inl refl
  first_in (then a p) = inl refl

  pub last-in : {i m : ℕ} {ss : List ℕ} → Leads f S i ss m → In (last_of ss) ss
  last-in (last a) = inl refl
  last-in {i} (then {ss = ss} a p) = inr (subst (λ (k : ℕ). In k ss) (sym (last_cons p i)) (last-in p))

  -- the last sector's element ends the chain, with its mark
  pub last-ends : {i m : ℕ} {ss : List ℕ} → Leads f S i ss m → Ends S (last_of ss) (f (last_of ss)) m
  last-ends (last a) = a
  last-ends {i} (then a p) = rw (last_cons p i) (last-ends p)

  -- from any sector of the chain the elements lead to the same end
  pub record Rest (x m : ℕ) (ss : List ℕ) : Type 0 where
    pub sectors : List ℕ
    pub leads : Leads f S x sectors m
    pub short : length sectors ≤ length ss
    pub same-last : last_of sectors ≡ last_of ss

  pub rest : {i m : ℕ} {ss : List ℕ} → Leads f S i ss m → (x : ℕ) → In x ss → Rest x m ss
  rest {i} {m} (last a) x (inl p) =
      record { sectors = i ∷ []; leads = subst (λ (k : ℕ). Leads f S k (i ∷ []) m) (sym p) (last a); short = omega arith; same-last = refl }
  rest (last {i = i} {m = m} a) x (inr p) = elim p [ ]
  rest {i} {m} (then {ss = ss} a q) x (inl p) =
      record { sectors = i ∷ ss; leads = subst (λ (k : ℕ). Leads f S k (i ∷ ss) m) (sym p) (then a q); short = omega arith; same-last = refl }
  rest {i} (then a q) x (inr p) =
      let r = rest q x p in
      record { sectors = r.sectors; leads = r.leads; short = omega (arith, r.short); same-last = r.same-last ∙ sym (last_cons q i) }

  pub leads-distinct : {i m : ℕ} {ss : List ℕ} → Sector S i → Leads f S i ss m → Distinct ss
  leads-distinct s (last a) = ((λ h. h), tt)
  leads-distinct {i} s (then a p) =
      ((λ h. let r = rest p i h in let e = (leads-unique s r.leads (then a p)).0 in omega (arith, r.short, ap length e)), leads-distinct a.sector p)

  pub leads-short : {i m : ℕ} {ss : List ℕ} → Sector S i → Leads f S i ss m → length ss ≤ S - 3
  leads-short {ss = ss} s p =
      few (S - 3) ss (leads-distinct s p) (λ x h. let r = leads-sectors s p x h in (r.low, r.high))

  -- ---- the walk

  -- what a chain has not passed before sector i, it does not pass after it, nor sector i again
  pub no_return : (ps : List ℕ) {i m : ℕ} {ss : List ℕ} → Sector S i → Names S i (f i) → Leads f S (f i) ss m → (Common (i ∷ ss) ps → ⊥) → Common ss (i ∷ ps) → ⊥
  no_return ps s a p h c = ⊎_elim (λ e. (leads-distinct s (then a p)).0 (rw e at c.1)) (λ q. h (c.0, inr c.1, q)) c.2

  -- with enough sectors allowed, the walk finds where the elements lead, through sectors that were not passed
  pub walk-on-finds : (ps : List ℕ) {i m : ℕ} {ss : List ℕ} → Sector S i → Leads f S i ss m → (Common ss ps → ⊥) → (n : ℕ) → length ss ≤ n → walk_on f S ps i n ≡ found ss m
  unfolding walk_on
  walk-on-finds ps s (last a) h zero l = absurd (omega arith)
  walk-on-finds ps {i} s (last a) h (suc n) l = rw (view-end s (view S i (f i)) a)
  walk-on-finds ps s (then a p) h zero l = absurd (omega arith)
  walk-on-finds ps {i} s (then {ss = ss} a p) h (suc n) l =
      rw (
        view-to s (view S i (f i)) a,
        not-member (f i) ps (λ q. h (f i, inr (first_in p), q)),
        walk-on-finds (i ∷ ps) a.sector p (no_return ps s a p h) n (omega arith),
      )

  pub walk-finds : {i m : ℕ} {ss : List ℕ} → Sector S i → Leads f S i ss m → (n : ℕ) → length ss ≤ n → walk f S i n ≡ found ss m
  walk-finds s p = walk-on-finds [] s p (λ c. c.2)

  -- what the walk finds is where the elements lead, in no more sectors than were allowed
  pub walk-on-leads : (n : ℕ) (ps : List ℕ) (i : ℕ) (ss : List ℕ) (m : ℕ) → walk_on f S ps i n ≡ found ss m → Leads f S i ss m × (length ss ≤ n)
  unfolding walk_on
  walk-on-leads zero ps i ss m e = absurd (let z : ◌≡◌ {A = ℕ} 0 1 = cc in omega arith)
  walk-on-leads (suc n) ps i ss m e = go (view S i (f i)) (walk-on-leads n (i ∷ ps) (f i)) e
    where
      inner : Names S i (f i) → (w : Walk) → ((us : List ℕ) (k : ℕ) → w ≡ found us k → Leads f S (f i) us k × (length us ≤ n)) → after i w ≡ found ss m → Leads f S i ss m × (length ss ≤ suc n)
      inner a (found us k) ih q =
          let e₁ : ss ≡ i ∷ us = cc in
          let e₂ : m ≡ k = cc in
          let r = ih us k refl in
          rw (e₁, e₂) (then a r.0, omega (arith, r.1))
      inner a (broken b) ih q = absurd (let z : ◌≡◌ {A = ℕ} 0 1 = cc in omega arith)

      on : Names S i (f i) → ((us : List ℕ) (k : ℕ) → walk_on f S (i ∷ ps) (f i) n ≡ found us k → Leads f S (f i) us k × (length us ≤ n)) → (b : Bool) → on_link ps i (pick_link b (bad is_passed) (to (f i))) (λ x. walk_on f S (i ∷ ps) x n) ≡ found ss m → Leads f S i ss m × (length ss ≤ suc n)
      on a ih true q = absurd (let z : ◌≡◌ {A = ℕ} 0 1 = cc in omega arith)
      on a ih false q = inner a (walk_on f S (i ∷ ps) (f i) n) ih q

      go : {l : Link} → View S i (f i) l → ((us : List ℕ) (k : ℕ) → walk_on f S (i ∷ ps) (f i) n ≡ found us k → Leads f S (f i) us k × (length us ≤ n)) → on_link ps i (past ps l) (λ x. walk_on f S (i ∷ ps) x n) ≡ found ss m → Leads f S i ss m × (length ss ≤ suc n)
      go (v_end {m = k} a) ih q =
          let e₁ : ss ≡ i ∷ [] = cc in
          let e₂ : m ≡ k = cc in
          rw (e₁, e₂) (last a, omega arith)
      go (v_to a) ih q = on a ih (member (f i) ps) q
      go (v_bad a) ih q = absurd (let z : ◌≡◌ {A = ℕ} 0 1 = cc in omega arith)

  pub walk-leads : (n i : ℕ) (ss : List ℕ) (m : ℕ) → walk f S i n ≡ found ss m → Leads f S i ss m
  walk-leads n i ss m e = (walk-on-leads n [] i ss m e).0

  pub walk-short : (n i : ℕ) (ss : List ℕ) (m : ℕ) → walk f S i n ≡ found ss m → length ss ≤ n
  walk-short n i ss m e = (walk-on-leads n [] i ss m e).1

  -- ---- the theorems

  module _ {i : ℕ} (s : Sector S i) where
    -- the walk finds exactly the chain
    pub found-chain : {ss : List ℕ} {m : ℕ} → (walk f S i (S - 3) ≡ found ss m) ↔ Chain f S i ss m
    found-chain {ss} {m} =
        ((λ e. let p = walk-leads (S - 3) i ss m e in record { leads = p; once = leads-distinct s p }), λ c. walk-finds s c.leads (S - 3) (leads-short s c.leads))

    -- the walk is broken exactly where there is no chain
    pub broken-none : ((b : Break) × (walk f S i (S - 3) ≡ broken b)) ↔ NoChain f S i
    broken-none =
        ((λ r ss m c. let q = r.1 in let z : ◌≡◌ {A = ℕ} 0 1 = cc (found-chain.1 c) in omega arith), λ free. go free (walk f S i (S - 3)) refl)
      where
        go : NoChain f S i → (w : Walk) → walk f S i (S - 3) ≡ w → (b : Break) × (walk f S i (S - 3) ≡ broken b)
        go free (found ss m) e = absurd (free ss m (found-chain.0 e))
        go free (broken b) e = (b, e)

    pub chain-unique : {ss ts : List ℕ} {m n : ℕ} → Chain f S i ss m → Chain f S i ts n → (ss ≡ ts) × (m ≡ n)
    chain-unique c d = leads-unique s c.leads d.leads

    pub chain-short : {ss : List ℕ} {m : ℕ} → Chain f S i ss m → length ss ≤ S - 3
    chain-short c = leads-short s c.leads

    pub chain-sectors : {ss : List ℕ} {m : ℕ} → Chain f S i ss m → (x : ℕ) → In x ss → Sector S x
    chain-sectors c = leads-sectors s c.leads

  -- two chains have a sector in common exactly where they have the same last sector
  pub common-last : {i j m n : ℕ} {ss ts : List ℕ} → Sector S i → Chain f S i ss m → Chain f S j ts n → Common ss ts ↔ (last_of ss ≡ last_of ts)
  common-last {ss = ss} {ts = ts} s c d = (there, back)
    where
      there : Common ss ts → last_of ss ≡ last_of ts
      there h =
          let p = rest c.leads h.0 h.1 in
          let q = rest d.leads h.0 h.2 in
          let e = (leads-unique (leads-sectors s c.leads h.0 h.1) p.leads q.leads).0 in
          sym p.same-last ∙ ap last_of e ∙ q.same-last

      back : last_of ss ≡ last_of ts → Common ss ts
      back e = (last_of ss, last-in c.leads, rw e (last-in d.leads))

-- ---- a mark is local: f and g are the same but at sector l

module _ (f g : ℕ → ℕ) (S l : ℕ) (same : (x : ℕ) → Sector S x → x ≢ l → g x ≡ f x) where
  -- a chain that does not pass l is as it was
  leads-apart : {i m : ℕ} {ss : List ℕ} → Sector S i → (In l ss → ⊥) → Leads f S i ss m → Leads g S i ss m
  leads-apart {i} {m} s h (last a) = last {i = i} {m = m} (rw (same i s (λ e. h (inl (sym e)))) a)
  leads-apart {i} {m} s h (then {ss = ss} a p) =
      let e = same i s (λ e. h (inl (sym e))) in
      then {i = i} {m = m} {ss = ss} (rw e a) (rw e (leads-apart a.sector (λ q. h (inr q)) p))

  pub chain-apart : {i m : ℕ} {ss : List ℕ} → Sector S i → (In l ss → ⊥) → Chain f S i ss m → Chain g S i ss m
  chain-apart s h c = record { leads = leads-apart s h c.leads; once = c.once }

  leads-marked : {i m k : ℕ} {ss : List ℕ} → Sector S i → Distinct ss → last_of ss ≡ l → Ends S l (g l) k → Leads f S i ss m → Leads g S i ss k
  leads-marked {i} {k = k} s d e b (last a) = last {i = i} {m = k} (rw e b)
  leads-marked {i} {k = k} s d e b (then {ss = ss} a p) =
      let e₂ = sym (last_cons f S p i) ∙ e in
      let q = same i s (λ w. d.0 (rw (w, ← e₂) (last-in f S p))) in
      then {i = i} {m = k} {ss = ss} (rw q a) (rw q (leads-marked a.sector d.1 e₂ b p))

  -- a chain that ends in l has the same sectors, and the mark that the new element gives
  pub chain-marked : {i m k : ℕ} {ss : List ℕ} → Sector S i → last_of ss ≡ l → Ends S l (g l) k → Chain f S i ss m → Chain g S i ss k
  chain-marked s e b c = record { leads = leads-marked s c.once e b c.leads; once = c.once }

-- an element that ends a chain stands at its last sector alone
ends_last : (f : ℕ → ℕ) (S l : ℕ) {i m k : ℕ} {ss : List ℕ} → Sector S i → Ends S l (f l) k → Leads f S i ss m → In l ss → last_of ss ≡ l
ends_last f S l s b (last a) (inl p) = sym p
ends_last f S l {k = k} s b (last {i = i} {m = m} a) (inr p) = elim p [ ]
ends_last f S l {k = k} s b (then a q) (inl p) = absurd (ends-or-names s (subst (λ (x : ℕ). Ends S x (f x) k) p b) a)
ends_last f S l {i} s b (then a q) (inr p) = last_cons f S q i ∙ ends_last f S l a.sector b q p

-- where l ends a chain before and after, every chain keeps its sectors: it passes l last, or not at all
pub chain-kept : (f g : ℕ → ℕ) (S l : ℕ) → ((x : ℕ) → Sector S x → x ≢ l → g x ≡ f x) → {i m k n : ℕ} {ss : List ℕ}
    → Sector S i → Ends S l (f l) m → Ends S l (g l) k → Chain f S i ss n → (r : ℕ) × Chain g S i ss r
chain-kept f g S l same {k = k} {n = n} {ss = ss} s a b c =
    ⊎_elim (λ h. (k, chain-marked f g S l same s (ends_last f S l s a c.leads h) b c)) (λ h. (n, chain-apart f g S l same s h c)) (in-or-not l ss)

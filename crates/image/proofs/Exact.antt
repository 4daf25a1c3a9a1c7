-- The verdict is exact: it gives number n with entry e if and only if document 01 says so, and it accepts if and only if the image obeys.
-- Assumes nothing.
use mathlib.Core.Path.{◌≡◌, refl, subst}
use mathlib.Core.Logic.{◌↔◌, ◌≢◌, ◌⊎◌, inl, inr}
use mathlib.Core.Bool.{Bool, true, ◌&&◌, not}
use mathlib.Core.List.{List}
use Prim.Native.Nat.{ℕ, zero, suc, ◌+◌, ◌-◌, ◌*◌, ◌≤◌, ◌<◌}
use native.Mathlib.Omega.{arith}
use lib.Dec.{eqb, leb}
use lib.ListN.{drop}
use borrow.Author.Tests.{eqb-false, ne_eqb, leb-true, le-leb, not-true}
use Rattle.bits.specs.Bits.{field}
use Rattle.chains.specs.Chain.{Sector, Chain}
use Rattle.chains.specs.Psi.{Ψ}
use Rattle.chains.proofs.ProductLaws as products
use Rattle.chains.proofs.ProductLaws.{Tested}
use Rattle.rules.specs.Claim.{Kept, Fails}
use Rattle.rules.specs.First.{first}
use Rattle.rules.specs.Rows.{FailsRow}
use Rattle.rules.proofs.ClaimLaws as CL
use Rattle.rules.proofs.ClaimLaws.{and-true, Found, none, one, kept_fails, fails_one, fails-some, Numbered, together, fails_absent, fails-row}
use Rattle.rules.specs.Lowest.{lowest}
use Rattle.rules.proofs.LowestLaws.{Found-lowest, nowhere, somewhere, lowest-is}
use Rattle.image.specs.Image.{shell_pad, table_pad, dataset, S, e#, SCTL, entry_at, table_at, element, chain, sectors}
use Rattle.image.specs.Verdict.{is_product, broken_at, shares_at, judged, verdict}
use Rattle.image.specs.Rules.{rules}
use Rattle.image.specs.Bounds.{Bounds}
use Rattle.image.specs.Obeys as O
use Rattle.image.specs.Obeys.{IsProduct, Broken, Shares, Obeys, Lowest, Says, accepted, refused, shared}
use Rattle.image.specs.Facts.{Zeros, Facts}
use Rattle.image.proofs.Bounded.{bounds}
use Rattle.image.proofs.Padding.{zeros-field}

-- the lowest that passes a test for P
lowest_so : (P : ℕ → Type 0) (n : ℕ) (t : ℕ → Bool) → ((k : ℕ) → P k → (1 ≤ k) × (k ≤ n) × (t k ≡ true)) → ((k : ℕ) → t k ≡ true → P k)
    → {r : ℕ} → Found-lowest n t r → ((r ≡ 0) × ((k : ℕ) → P k → ⊥)) ⊎ ((1 ≤ r) × Lowest P r)
lowest_so P n t pass so (nowhere h) = inl (refl, λ k p. let q = pass k p in h k q.0 q.1 q.2)
lowest_so P n t pass so (somewhere {r = r} a l e h) =
    inr (a, record { holds = so r e; not_lower = λ k b p. let q = pass k p in h k q.0 b q.2 })

-- ---- entries

pub test-product : (c : List ℕ) (j : ℕ) → is_product c j ≡ true → IsProduct c j
unfolding is_product
test-product c j e =
    let x = and-true (leb 1 j && leb j (e# c)) (not (eqb (field c (8 * entry_at c j) 40) 0)) e in
    let y = and-true (leb 1 j) (leb j (e# c)) x.0 in
    record { low = leb-true 1 j y.0; high = leb-true j (e# c) y.1; full = eqb-false _ 0 (not-true _ x.1) }

pub product_test : (c : List ℕ) (j : ℕ) → IsProduct c j → is_product c j ≡ true
unfolding is_product
product_test c j v = rw (le-leb 1 j v.low, le-leb j (e# c) v.high, ne_eqb (field c (8 * entry_at c j) 40) 0 v.full)

module _ (c : List ℕ) (fits : e# c ≤ S c - 3) where
  pub product-sector : {j : ℕ} → IsProduct c j → Sector (S c) j
  product-sector v = record { low = v.low; high = omega arith }

  -- the test of being a product is right
  pub tested : Tested (IsProduct c) (is_product c) (S c)
  tested = record { so = test-product c; test = product_test c; sector = λ j v. product-sector v }

  pub broken-so : (j : ℕ) → broken_at c j ≡ true → Broken c j
  unfolding broken_at
  broken-so = products.broken-so tested (element c)

  pub so-broken : (j : ℕ) → Broken c j → broken_at c j ≡ true
  unfolding broken_at
  so-broken = products.so-broken tested (element c)

  pub so-sectors : {j m : ℕ} {ss : List ℕ} → IsProduct c j → Chain (element c) (S c) j ss m → sectors c j ≡ ss
  unfolding sectors chain
  so-sectors v d = products.so-sectors tested (element c) v d

  pub shares-so : (k : ℕ) → shares_at c k ≡ true → Shares c k
  unfolding shares_at
  shares-so = products.shares-so tested (element c)

  pub so-shares : (k : ℕ) → Shares c k → shares_at c k ≡ true
  unfolding shares_at
  so-shares = products.so-shares tested (element c)

-- ---- the rules 1 to 8, 12 and 9

pub numbered : (c : List ℕ) → Numbered (rules c)
unfolding rules
numbered c = omega arith

rows : (c : List ℕ) → together (rules c) ≡ true
unfolding rules
rows c = refl

kept_bounds : (c : List ℕ) → Kept (rules c) → Bounds c
unfolding rules
kept_bounds c k =
    let k5 = k.1.1.1.1.1 in
    bounds c (k.0, (k.1.0, (k.1.1.0, (k.1.1.1.0, (k.1.1.1.1.0, tt)))))
    (k5.0, (k5.1.0, (k5.1.1.0, (k5.1.1.1.0, (k5.1.1.1.1.0, (k5.1.1.1.1.1.0, (k5.1.1.1.1.1.1.0, (k5.1.1.1.1.1.1.1.0, (k5.1.1.1.1.1.1.1.1.0, tt)))))))))

pub facts_bounds : (c : List ℕ) → Facts c → Bounds c
unfolding dataset
facts_bounds c o =
    bounds c (o.head, (o.length_stated, (o.version_one, (o.copy_in_force, (o.shell_there, tt)))))
    (o.bit_map_zero, (o.dataset_least, (o.sectors_least, (o.size_least, (o.entries, (o.table-bytes, (o.directory_fits, (o.dataset_fits, (o.whole, tt)))))))))

-- the paddings are zero exactly where each of their bits is
module _ (c : List ℕ) (b : Bounds c) where
  shell-zeros : (shell_pad c ≡ 0) ↔ Zeros (drop 4 c) 160 (8 * (dataset c - 2))
  unfolding shell_pad
  shell-zeros =
      let e : 160 + 8 * (dataset c - 22) ≡ 8 * (dataset c - 2) = omega arith in
      rw e at (zeros-field (drop 4 c) 160 (8 * (dataset c - 22)))

  table-zeros : (table_pad c ≡ 0) ↔ Zeros c (8 * table_at c + Ψ (S c) * (S c - 3)) (8 * (table_at c + SCTL c))
  unfolding table_pad
  table-zeros =
      let e : 8 * table_at c + Ψ (S c) * (S c - 3) + (8 * SCTL c - Ψ (S c) * (S c - 3)) ≡ 8 * (table_at c + SCTL c) = omega arith in
      rw e at (zeros-field c (8 * table_at c + Ψ (S c) * (S c - 3)) (8 * SCTL c - Ψ (S c) * (S c - 3)))

pub kept_facts : (c : List ℕ) → Kept (rules c) → ((j : ℕ) → Broken c j → ⊥) → ((k : ℕ) → Shares c k → ⊥) → Facts c
unfolding rules dataset
kept_facts c k b s =
    let k5 = k.1.1.1.1.1 in
    let k10 = k5.1.1.1.1.1 in
    let k15 = k10.1.1.1.1.1 in
    let g = kept_bounds c k in
    let t = tested c k5.1.1.1.1.0.1 in
    record {
      head = k.0;
      length_stated = k.1.0;
      version_one = k.1.1.0;
      copy_in_force = k.1.1.1.0;
      shell_there = k.1.1.1.1.0;
      bit_map_zero = k5.0;
      dataset_least = k5.1.0;
      sectors_least = k5.1.1.0;
      size_least = k5.1.1.1.0;
      entries = k5.1.1.1.1.0;
      table-bytes = k10.0;
      directory_fits = k10.1.0;
      dataset_fits = k10.1.1.0;
      whole = k10.1.1.1.0;
      checksum = k10.1.1.1.1.0;
      iin = k15.0;
      oid = k15.1.0;
      issn = k15.1.1.0;
      chd = k15.1.1.1.0;
      shell_padding = (shell-zeros c g).0 k15.1.1.1.1.0;
      check_digit = k15.1.1.1.1.1.0;
      table_padding = (table-zeros c g).0 k15.1.1.1.1.1.1.0;
      chained = (products.chained-none t (element c)).1 b;
      disjoint = (products.disjoint-none t (element c)).1 s;
    }

pub facts-kept : (c : List ℕ) → Facts c → Kept (rules c)
unfolding rules dataset
facts-kept c o =
    let g = facts_bounds c o in
    (o.head, (o.length_stated, (o.version_one, (o.copy_in_force, (o.shell_there, (o.bit_map_zero, (o.dataset_least, (o.sectors_least, (o.size_least, (o.entries, (o.table-bytes, (o.directory_fits, (o.dataset_fits, (o.whole, (o.checksum, (o.iin, (o.oid, (o.issn, (o.chd, ((shell-zeros c g).1 o.shell_padding, (o.check_digit, ((table-zeros c g).1 o.table_padding, tt))))))))))))))))))))))

-- no product of an acceptable image is broken, and none shares with a lower one
module _ (c : List ℕ) (o : Facts c) where
  pub none_broken : (j : ℕ) → Broken c j → ⊥
  none_broken = (products.chained-none (tested c o.entries.1) (element c)).0 o.chained

  pub none_shares : (k : ℕ) → Shares c k → ⊥
  none_shares = (products.disjoint-none (tested c o.entries.1) (element c)).0 o.disjoint

pub obeys_facts : (c : List ℕ) → Obeys c → Facts c
obeys_facts c o = kept_facts c o.kept o.none_broken o.none_shares

pub facts-obeys : (c : List ℕ) → Facts c → Obeys c
facts-obeys c f = record { kept = facts-kept c f; none_broken = none_broken c f; none_shares = none_shares c f }

-- e# is at most S - 3 where the rules are kept
fits_kept : (c : List ℕ) → Kept (rules c) → e# c ≤ S c - 3
unfolding rules
fits_kept c k = k.1.1.1.1.1.1.1.1.1.0.1

-- ---- the verdict

module _ (c : List ℕ) where
  -- j is the lowest of which P holds, or 0 and there is none
  LowestOr : (ℕ → Type 0) → ℕ → Type 0
  LowestOr P j = ((j ≡ 0) × ((i : ℕ) → P i → ⊥)) ⊎ ((1 ≤ j) × Lowest P j)

  says-kept : Kept (rules c) → (j k : ℕ) → LowestOr (Broken c) j → LowestOr (Shares c) k → Says c (judged 0 j k).number (judged 0 j k).entry
  unfolding LowestOr
  says-kept r zero zero (inl x) (inl y) = accepted (record { kept = r; none_broken = x.1; none_shares = y.1 })
  says-kept r zero (suc k) (inl x) (inl y) = absurd (omega (arith, y.0))
  says-kept r zero zero (inl x) (inr y) = absurd (omega (arith, y.0))
  says-kept r zero (suc k) (inl x) (inr y) = shared r x.1 y.1
  says-kept r zero k (inr x) y = absurd (omega (arith, x.0))
  says-kept r (suc j) k (inl x) y = absurd (omega (arith, x.0))
  says-kept r (suc j) k (inr x) y = O.broken r x.1

  says-judged : (n j k : ℕ) → Found (rules c) n → (Kept (rules c) → LowestOr (Broken c) j) → (Kept (rules c) → LowestOr (Shares c) k)
      → Says c (judged n j k).number (judged n j k).entry
  says-judged n j k (none r) b s = says-kept r j k (b r) (s r)
  says-judged zero j k (one a f) b s = absurd (omega arith)
  says-judged (suc n) j k (one a f) b s = refused f

  pub says : Says c (verdict c).number (verdict c).entry
  unfolding verdict LowestOr
  says =
      says-judged (first (rules c)) (lowest (e# c) (broken_at c)) (lowest (e# c) (shares_at c)) (CL.found (rules c) (numbered c))
      (λ r. lowest_so (Broken c) (e# c) (broken_at c)
      (λ k p. (p.is-product.low, p.is-product.high, so-broken c (fits_kept c r) k p)) (broken-so c (fits_kept c r)) (lowest-is (e# c) (broken_at c)))
      (λ r. lowest_so (Shares c) (e# c) (shares_at c)
      (λ k p. (p.product_k.low, p.product_k.high, so-shares c (fits_kept c r) k p)) (shares-so c (fits_kept c r)) (lowest-is (e# c) (shares_at c)))

  lowest-one : (P : ℕ → Type 0) (q r : ℕ) → Lowest P q → Lowest P r → q ≡ r
  lowest-one P q r a b =
      let x : ¬ (q < r) = λ l. b.not_lower q l a.holds in
      let y : ¬ (r < q) = λ l. a.not_lower r l b.holds in
      omega arith

  -- document 01 says one thing of each image
  pub says-one : {n e m f : ℕ} → Says c n e → Says c m f → (n ≡ m) × (e ≡ f)
  says-one (accepted o) (accepted p) = (refl, refl)
  says-one (accepted o) (refused f) = absurd (kept_fails f o.kept)
  says-one (accepted o) (O.broken {j = j} r l) = absurd (o.none_broken j l.holds)
  says-one (accepted o) (shared {k = k} r b l) = absurd (o.none_shares k l.holds)
  says-one (refused f) (accepted o) = absurd (kept_fails f o.kept)
  says-one (refused f) (refused g) = (fails_one f g, refl)
  says-one (refused f) (O.broken r l) = absurd (kept_fails f r)
  says-one (refused f) (shared r b l) = absurd (kept_fails f r)
  says-one (O.broken {j = j} r l) (accepted o) = absurd (o.none_broken j l.holds)
  says-one (O.broken r l) (refused f) = absurd (kept_fails f r)
  says-one (O.broken {j = j} r l) (O.broken {j = k} q m) = (refl, lowest-one (Broken c) j k l m)
  says-one (O.broken {j = j} r l) (shared q b m) = absurd (b j l.holds)
  says-one (shared {k = k} r b l) (accepted o) = absurd (o.none_shares k l.holds)
  says-one (shared r b l) (refused f) = absurd (kept_fails f r)
  says-one (shared r b l) (O.broken {j = j} q m) = absurd (b j m.holds)
  says-one (shared {k = j} r b l) (shared {k = k} q d m) = (refl, lowest-one (Shares c) j k l m)

  -- THE THEOREM: the verdict is number n and entry e if and only if document 01 says so
  pub exact : (n e : ℕ) → (((verdict c).number ≡ n) × ((verdict c).entry ≡ e)) ↔ Says c n e
  exact n e = ((λ q. rw (← q.0, ← q.1) says), λ s. says-one says s)

  obeys-says : {n e : ℕ} → Says c n e → n ≡ 0 → Obeys c
  obeys-says (accepted o) z = o
  obeys-says (refused f) z = absurd (omega (arith, fails-some f (numbered c)))
  obeys-says (O.broken r l) z = absurd (omega arith)
  obeys-says (shared r b l) z = absurd (omega arith)

  -- accepted if and only if it obeys
  pub accepted-exactly : ((verdict c).number ≡ 0) ↔ Obeys c
  accepted-exactly = ((λ z. obeys-says says z), λ o. ((exact 0 0).1 (accepted o)).0)

  -- the same, by the facts
  pub accepts : ((verdict c).number ≡ 0) ↔ Facts c
  accepts = ((λ z. obeys_facts c (accepted-exactly.0 z)), λ f. accepted-exactly.1 (facts-obeys c f))

  row-says : {n e : ℕ} → Says c n e → n ≢ 0 → n ≢ 10 → n ≢ 11 → Fails (rules c) n
  row-says (accepted o) x y z = absurd (x refl)
  row-says (refused f) x y z = f
  row-says (O.broken r l) x y z = absurd (y refl)
  row-says (shared r d l) x y z = absurd (z refl)

  -- every number but 10 and 11, as the table has them: row n says so, and every row before it holds
  pub row : (n : ℕ) → n ≢ 0 → n ≢ 10 → n ≢ 11 → ((verdict c).number ≡ n) ↔ FailsRow n (rules c)
  row n x y z =
      let l = fails-row n (rules c) (rows c) in
      ((λ q. l.0 (row-says (subst (λ (m : ℕ). Says c m (verdict c).entry) q says) x y z)), λ p. ((exact n 0).1 (refused (l.1 p))).0)

  -- 10 and 11 are numbers of no rule of the list
  not-ten : Fails (rules c) 10 → ⊥
  unfolding rules
  not-ten f = fails_absent f refl

  not-eleven : Fails (rules c) 11 → ⊥
  unfolding rules
  not-eleven f = fails_absent f refl

  broken-says : {n e : ℕ} → Says c n e → n ≡ 10 → Kept (rules c) × Lowest (Broken c) e
  broken-says (accepted o) z = absurd (omega arith)
  broken-says (refused f) z = absurd (not-ten (subst (Fails (rules c)) z f))
  broken-says (O.broken r l) z = (r, l)
  broken-says (shared r b l) z = absurd (omega arith)

  shared_says : {n e : ℕ} → Says c n e → n ≡ 11 → Kept (rules c) × ((j : ℕ) → Broken c j → ⊥) × Lowest (Shares c) e
  shared_says (accepted o) z = absurd (omega arith)
  shared_says (refused f) z = absurd (not-eleven (subst (Fails (rules c)) z f))
  shared_says (O.broken r l) z = absurd (omega arith)
  shared_says (shared r b l) z = (r, b, l)

  -- number 10: every rule above is kept, and the entry is the lowest that is broken
  pub row-10 : (j : ℕ) → (((verdict c).number ≡ 10) × ((verdict c).entry ≡ j)) ↔ (Kept (rules c) × Lowest (Broken c) j)
  row-10 j = ((λ q. broken-says ((exact 10 j).0 q) refl), λ p. (exact 10 j).1 (O.broken p.0 p.1))

  -- number 11: every rule above is kept, no chain is broken, and the entry is the lowest that shares with a lower one
  pub row-11 : (k : ℕ) → (((verdict c).number ≡ 11) × ((verdict c).entry ≡ k)) ↔ (Kept (rules c) × ((j : ℕ) → Broken c j → ⊥) × Lowest (Shares c) k)
  row-11 k = ((λ q. shared_says ((exact 11 k).0 q) refl), λ p. (exact 11 k).1 (shared p.0 p.1 p.2))

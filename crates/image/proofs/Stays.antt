-- An image that is altered so stays acceptable, with the same entries and the same sectors of every chain: the altered element ends a chain
-- before and after. Assumes nothing.
use mathlib.Core.Path.{◌≡◌, refl, sym, ap, ◌∙◌}
use mathlib.Core.Logic.{◌≢◌}
use mathlib.Core.Bool.{Bool, true, false}
use mathlib.Core.List.{List}
use Prim.Native.Nat.{ℕ, ◌+◌, ◌-◌, ◌*◌, ◌≤◌}
use native.Mathlib.Nat.{add-zero}
use native.Mathlib.Omega.{arith}
use Rattle.bits.specs.Bits.{field}
use Rattle.chains.specs.Chain.{Sector, Ends, In, Common, Chain, last_of}
use Rattle.chains.specs.Walk.{Walk, found, broken, walk}
use Rattle.chains.specs.Products.{sectors_of, mark_of}
use Rattle.chains.specs.Psi.{table_bytes}
use Rattle.chains.proofs.Laws.{found-chain, broken-none, chain-apart, chain-marked, chain-kept}
use Rattle.image.specs.Image.{S, e#, directory_at, entry_at, element, chain, sectors, mark}
use Rattle.image.specs.Verdict.{is_product}
use Rattle.image.specs.Obeys.{IsProduct}
use Rattle.image.specs.Facts.{Facts}
use Rattle.image.proofs.Exact.{test-product, product_test, product-sector, so-sectors}
use Rattle.image.proofs.Same.{Same}

-- the chain of a product
pub chain_of : (c : List ℕ) → Facts c → {j : ℕ} → IsProduct c j → Chain (element c) (S c) j (sectors c j) (mark c j)
unfolding sectors mark chain
chain_of c o {j} v = go (walk (element c) (S c) j (S c - 3)) refl
  where
    s : Sector (S c) j
    s = product-sector c o.entries.1 v

    go : (w : Walk) → walk (element c) (S c) j (S c - 3) ≡ w → Chain (element c) (S c) j (sectors_of w) (mark_of w)
    go (found ss m) q = (found-chain (element c) (S c) s).0 q
    go (broken b) q = let r = o.chained j v in absurd ((broken-none (element c) (S c) s).0 (b, q) r.0 r.1 r.2)

pub so-mark : (c : List ℕ) → e# c ≤ S c - 3 → {j m : ℕ} {ss : List ℕ} → IsProduct c j → Chain (element c) (S c) j ss m → mark c j ≡ m
unfolding mark chain
so-mark c fits v d = rw ((found-chain (element c) (S c) (product-sector c fits v)).1 d)

-- a product has one chain
pub chain_only : (c : List ℕ) → Facts c → {j m : ℕ} {ss : List ℕ} → IsProduct c j → Chain (element c) (S c) j ss m → (ss ≡ sectors c j) × (m ≡ mark c j)
chain_only c o v d = (sym (so-sectors c o.entries.1 v d), sym (so-mark c o.entries.1 v d))

-- two products have no sector in common
pub no-common : (c : List ℕ) → Facts c → {j k : ℕ} → IsProduct c j → IsProduct c k → j ≢ k → Common (sectors c j) (sectors c k) → ⊥
no-common c o {j} {k} v w d h = o.disjoint j k v w d (sectors c j) (sectors c k) (mark c j) (mark c k) (chain_of c o v) (chain_of c o w) h

module _ {c d : List ℕ} {l m k : ℕ} (o : Facts c) (q : Same c d l) (old : Ends (S c) l (element c l) m) (new : Ends (S c) l (element d l) k) where
  pub entry_same : (j p w : ℕ) → 1 ≤ j → j ≤ e# c → p + w ≤ 40 → field d (8 * entry_at d j + p) w ≡ field c (8 * entry_at c j + p) w
  unfolding entry_at
  entry_same j p w a b h =
      let e : 8 * (directory_at c + 2 + 5 * (j - 1)) + p ≡ 8 * directory_at c + (16 + 40 * (j - 1) + p) = omega arith in
      rw (q.directory_same, e) (q.entries_same (16 + 40 * (j - 1) + p) w (omega arith))

  forty : (j : ℕ) → 1 ≤ j → j ≤ e# c → field d (8 * entry_at d j) 40 ≡ field c (8 * entry_at c j) 40
  forty j a b = simp add-zero at (entry_same j 0 40 a b (omega arith))

  pub product-there : {j : ℕ} → IsProduct c j → IsProduct d j
  product-there {j} v = record { low = v.low; high = omega (arith, q.e#_same); full = λ e. v.full (sym (forty j v.low v.high) ∙ e) }

  pub product-back : {j : ℕ} → IsProduct d j → IsProduct c j
  product-back {j} v =
      let h : j ≤ e# c = omega (arith, q.e#_same, v.high) in
      record { low = v.low; high = h; full = λ e. v.full (forty j v.low h ∙ e) }

  sector_of_lem : {j : ℕ} → IsProduct c j → Sector (S c) j
  sector_of_lem v = product-sector c o.entries.1 v

  chain-there : {j n : ℕ} {ss : List ℕ} → IsProduct c j → Chain (element c) (S c) j ss n → (r : ℕ) × Chain (element d) (S c) j ss r
  chain-there v h = chain-kept (element c) (element d) (S c) l q.elements_same (sector_of_lem v) old new h

  chain_back : {j n : ℕ} {ss : List ℕ} → IsProduct c j → Chain (element d) (S c) j ss n → (r : ℕ) × Chain (element c) (S c) j ss r
  chain_back v h = chain-kept (element d) (element c) (S c) l (λ x s t. sym (q.elements_same x s t)) (sector_of_lem v) new old h

  chained-there : (j : ℕ) → IsProduct d j → (ss : List ℕ) × (r : ℕ) × Chain (element d) (S d) j ss r
  chained-there j v =
      let w = product-back v in
      let t = chain-there w (chain_of c o w) in
      (sectors c j, t.0, rw q.S_same t.1)

  disjoint-there : (i j : ℕ) → IsProduct d i → IsProduct d j → i ≢ j → (ss ts : List ℕ) (r t : ℕ) → Chain (element d) (S d) i ss r → Chain (element d) (S d) j ts t
      → Common ss ts → ⊥
  disjoint-there i j v w ne ss ts r t a b h =
      let x = chain_back (product-back v) (rw q.S_same at a) in
      let y = chain_back (product-back w) (rw q.S_same at b) in
      o.disjoint i j (product-back v) (product-back w) ne ss ts x.0 y.0 x.1 y.1 h

  pub obeys : Facts d
  obeys = record {
    head = omega (arith, q.length_same, o.head);
    length_stated = q.stated_same ∙ o.length_stated ∙ sym q.length_same;
    version_one = q.version_same ∙ o.version_one;
    copy_in_force = omega (arith, q.copy_same, o.copy_in_force);
    shell_there = omega (arith, q.length_same, o.shell_there);
    bit_map_zero = rw q.values_same o.bit_map_zero;
    dataset_least = omega (arith, q.dataset_same, o.dataset_least);
    sectors_least = omega (arith, q.S_same, o.sectors_least);
    size_least = omega (arith, q.B_same, o.size_least);
    entries = (omega (arith, q.e#_same, o.entries.0), omega (arith, q.e#_same, q.S_same, o.entries.1));
    table-bytes = q.SCTL_same ∙ o.table-bytes ∙ ap table_bytes (sym q.S_same);
    directory_fits = omega (arith, q.e#_same, q.SCTL_same, q.B_same, o.directory_fits);
    dataset_fits = omega (arith, q.dataset_same, q.B_same, o.dataset_fits);
    whole = rw (q.length_same, q.S_same, q.B_same) o.whole;
    checksum = rw (q.SECR_same, q.before_secr_same) o.checksum;
    iin = rw q.values_same o.iin;
    oid = rw q.values_same o.oid;
    issn = rw q.values_same o.issn;
    chd = rw q.values_same o.chd;
    check_digit = rw q.values_same o.check_digit;
    shell_padding = λ i a z. let y = q.dataset_same in q.shell_bits_same i (omega (arith, o.dataset_fits)) ∙ o.shell_padding i a (omega arith);
    table_padding = λ i a z. let x = (rw (q.table_same, q.S_same) at a) in let y = (rw (q.table_same, q.SCTL_same) at z) in q.padding_bits_same i x y ∙ o.table_padding i x y;
    chained = chained-there;
    disjoint = disjoint-there;
  }

  -- every chain has the sectors that it had
  pub sectors-same : {j : ℕ} → IsProduct c j → sectors d j ≡ sectors c j
  sectors-same {j} v =
      let t = chain-there v (chain_of c o v) in
      so-sectors d obeys.entries.1 {m = t.0} (product-there v) (rw q.S_same t.1)

  -- and the mark that it had, if it does not pass l
  pub mark-same : {j : ℕ} → IsProduct c j → (In l (sectors c j) → ⊥) → mark d j ≡ mark c j
  mark-same {j} v h =
      so-mark d obeys.entries.1 {ss = sectors c j} (product-there v)
      (rw q.S_same (chain-apart (element c) (element d) (S c) l q.elements_same (sector_of_lem v) h (chain_of c o v)))

  -- and the new one, if it ends in l
  pub mark-new : {j : ℕ} → IsProduct c j → last_of (sectors c j) ≡ l → mark d j ≡ k
  mark-new {j} v e =
      so-mark d obeys.entries.1 {ss = sectors c j} (product-there v)
      (rw q.S_same (chain-marked (element c) (element d) (S c) l q.elements_same (sector_of_lem v) e new (chain_of c o v)))

  pub is-product-same : (j : ℕ) → is_product d j ≡ is_product c j
  is-product-same j = go (is_product c j) refl (is_product d j) refl
    where
      go : (x : Bool) → is_product c j ≡ x → (y : Bool) → is_product d j ≡ y → y ≡ x
      go true e true f = refl
      go false e false f = refl
      go true e false f = sym f ∙ product_test d j (product-there (test-product c j e))
      go false e true f = sym (product_test c j (product-back (test-product d j f))) ∙ e

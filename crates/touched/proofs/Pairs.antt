-- What the code of `touched` relies on: what it compares is what the definition compares, sector by sector and entry by entry. Assumes nothing.
use mathlib.Core.Path.{◌≡◌, refl, sym, ap, ap₂, ◌∙◌}
use mathlib.Core.Logic.{◌≢◌}
use mathlib.Core.Bool.{Bool, true, false, ◌&&◌, true≢false}
use mathlib.Core.List.{List, [], ◌∷◌}
use Prim.Native.Nat.{ℕ, zero, suc, ◌+◌, ◌-◌, ◌*◌, ◌≤◌, ◌<◌}
use native.Mathlib.Numerals.{add-one, sub-one}
use native.Mathlib.Omega.{arith}
use lib.Dec.{eqb}
use lib.Pointwise.{pointwise}
use lib.ListN.{length, take, drop, set, length-set}
use lib.Seq.{take_all, take-suc-set}
use borrow.Author.Tests.{eq-eqb, ne_eqb}
use Rattle.bits.specs.Bits.{field}
use Rattle.chains.specs.Chain.{Sector}
use Rattle.chains.specs.Walk.{Link, end, to, bad, link}
use Rattle.chains.specs.Ended.{link_told}
use Rattle.chains.specs.declared.packed.Link as code
use Rattle.chains.specs.Packed.{element_in}
use Rattle.chains.proofs.Laws.{View, v_to, view, chain-short}
use Rattle.image.specs.Image.{B, S, element, sector, product}
use Rattle.image.specs.Verdict.{is_product}
use Rattle.image.specs.Obeys.{IsProduct}
use Rattle.image.specs.Shape.{Shaped, table_of, sector_place, entry_place}
use Rattle.image.specs.declared.Shape.{Shape}
use Rattle.image.proofs.Exact.{accepts, test-product, product-sector}
use Rattle.image.proofs.Stays.{chain_of}
use Rattle.image.proofs.First.{length-sector}
use Rattle.image.proofs.Same.{before-directory}
use Rattle.image.proofs.Shapes.{sector-is, entry-is}
use Rattle.steps.specs.Touched.{forty}
use Rattle.steps.specs.Flags.{alike, same_product, kept, flag_of, flags_to}
use Rattle.touched.specs.Together.{onward, same_from, chains_same, linked, Both}
use Rattle.std.specs.Prelude.{Option, Some, None}
use Rattle.touched.specs.declared.pair.Pair.{Pair}
use Rattle.touched.proofs.Alike.{together}

-- ---- one sector and its element, by the shape

sector_of_lem : {c : List ℕ} {g : Shape} → Shaped c g → (i : ℕ) → take g.size (drop (sector_place g i) c) ≡ sector c i
unfolding sector
sector_of_lem {c} s i = ap₂ (λ (n a : ℕ). take n (drop a c)) s.size_is (sector-is s i)

pub element_of : {c : List ℕ} {g : Shape} → Shaped c g → (i : ℕ) → element_in c (table_of g).first (table_of g).psi i ≡ element c i
unfolding element
element_of s i = rw (s.table_is, s.psi-is)

-- equal slices are alike
pointwise-alike : (xs ys : List ℕ) → pointwise eqb xs ys ≡ alike xs ys
unfolding alike
pointwise-alike [] [] = refl
pointwise-alike [] (y ∷ ys) = refl
pointwise-alike (x ∷ xs) [] = refl
pointwise-alike (x ∷ xs) (y ∷ ys) = ap (λ (b : Bool). eqb x y && b) (pointwise-alike xs ys)

module _ {c d : List ℕ} {g : Shape} (b : Both c d g) where
  pub S-is : S d ≡ S c
  S-is = sym b.shape_after.sectors_is ∙ b.shape.sectors_is

  B-is : B d ≡ B c
  B-is = sym b.shape_after.size_is ∙ b.shape.size_is

  pub sector-in : (i a : ℕ) → Sector g.sectors i → a ≡ sector_place g i → (8 ≤ g.size) × (a + g.size ≤ length c) × (a + g.size ≤ length d)
  sector-in i a s e =
      let x = b.shape.in_bounds in
      let y = b.shape_after.in_bounds in (
        omega (arith, b.shape.size_is, x.b_least),
        omega (arith, sector-is b.shape i, b.shape.size_is, x.directory_in, before-directory c x i (rw b.shape.sectors_is at s)),
        omega (arith, sector-is b.shape_after i, b.shape_after.size_is, y.directory_in, before-directory d y i (rw b.shape_after.sectors_is at s)),
      )

  pub sectors-are : (i a : ℕ) → a ≡ sector_place g i → alike (take g.size (drop a c)) (take g.size (drop a d)) ≡ alike (sector c i) (sector d i)
  sectors-are i a e = rw e (ap₂ alike (sector_of_lem b.shape i) (sector_of_lem b.shape_after i))

  -- the same of equal slices
  pub bytes-same : (i a : ℕ) {r : Bool} → a ≡ sector_place g i → r ≡ pointwise eqb (take (a + g.size - a) (drop a c)) (take (a + g.size - a) (drop a d)) → r ≡ alike (sector c i) (sector d i)
  bytes-same i a e q =
      let n : a + g.size - a ≡ g.size = omega arith in
      q ∙ pointwise-alike (take (a + g.size - a) (drop a c)) (take (a + g.size - a) (drop a d)) ∙ rw n (sectors-are i a e)

  -- ---- the walk

  -- what is told of the element x of sector i, told of the image's
  pub of-element : (i x : ℕ) {r : code.Link} → x ≡ element c i → r ≡ link_told (link g.sectors i x) → r ≡ link_told (link (S c) i (element c i))
  of-element i x e h = h ∙ rw (e, b.shape.sectors_is) refl

  -- whether sector i and its element are the same in both, and the sector that its element tells
  abbrev pub same_at_sector : ℕ → Bool
  same_at_sector i = alike (sector c i) (sector d i) && eqb (element c i) (element d i)

  abbrev pub next_at : ℕ → Option ℕ
  next_at i = linked (link (S c) i (element c i))

  pub on-sector : (i x : ℕ) → Some x ≡ next_at i → Sector g.sectors x
  on-sector i x e = rw b.shape.sectors_is (go (link (S c) i (element c i)) (view (S c) i (element c i)) e)
    where
      go : (l : Link) → View (S c) i (element c i) l → Some x ≡ linked l → Sector (S c) x
      go (end m) v q = absurd (let w : ◌≡◌ {A = ℕ} 0 1 = cc in omega arith)
      go (to y) (v_to n) q = let z : x ≡ y = cc in rw z n.sector
      go (bad f) v q = absurd (let w : ◌≡◌ {A = ℕ} 0 1 = cc in omega arith)

  pub chain-none : (i n : ℕ) → n ≤ 0 → true ≡ chains_same c d i n
  unfolding same_from
  chain-none i n h = let e : n ≡ 0 = omega arith in rw e

  pub chain-differs : (i n : ℕ) → 0 < n → false ≡ same_at_sector i → false ≡ chains_same c d i n
  unfolding same_from
  chain-differs i zero z e = absurd (omega arith)
  chain-differs i (suc n) z e = go (alike (sector c i) (sector d i)) (eqb (element c i) (element d i)) (onward (link (S c) i (element c i)) (λ x. chains_same c d x n)) e
    where
      go : (t u r : Bool) → false ≡ (t && u) → false ≡ (t && (u && r))
      go false u r q = refl
      go true false r q = refl
      go true true r q = absurd (true≢false (sym q))

  same-on : (i n : ℕ) → true ≡ same_at_sector i → onward (link (S c) i (element c i)) (λ x. chains_same c d x n) ≡ chains_same c d i (suc n)
  unfolding same_from
  same-on i n e = go (alike (sector c i) (sector d i)) (eqb (element c i) (element d i)) (onward (link (S c) i (element c i)) (λ x. chains_same c d x n)) e
    where
      go : (t u r : Bool) → true ≡ (t && u) → r ≡ (t && (u && r))
      go false u r q = absurd (true≢false q)
      go true false r q = absurd (true≢false q)
      go true true r q = refl

  pub chain-ends : (i n : ℕ) → 0 < n → true ≡ same_at_sector i → None ≡ next_at i → true ≡ chains_same c d i n
  chain-ends i zero z e h = absurd (omega arith)
  chain-ends i (suc n) z e h = go (link (S c) i (element c i)) h ∙ same-on i n e
    where
      go : (l : Link) → None ≡ linked l → true ≡ onward l (λ x. chains_same c d x n)
      go (end m) q = refl
      go (to y) q = absurd (let w : ◌≡◌ {A = ℕ} 0 1 = cc in omega arith)
      go (bad w) q = refl

  pub chain-goes : (i n x : ℕ) → 0 < n → true ≡ same_at_sector i → Some x ≡ next_at i → chains_same c d x (n - 1) ≡ chains_same c d i n
  chain-goes i zero x z e h = absurd (omega arith)
  chain-goes i (suc n) x z e h = rw sub-one (go (link (S c) i (element c i)) h ∙ same-on i n e)
    where
      go : (l : Link) → Some x ≡ linked l → chains_same c d x n ≡ onward l (λ x. chains_same c d x n)
      go (end m) q = absurd (let w : ◌≡◌ {A = ℕ} 0 1 = cc in omega arith)
      go (to y) q = let z : x ≡ y = cc in rw z
      go (bad f) q = absurd (let w : ◌≡◌ {A = ℕ} 0 1 = cc in omega arith)

  -- with S - 3 sectors allowed the walk sees the whole product
  pub whole-chain : (j : ℕ) → IsProduct c j → IsProduct d j → chains_same c d j (S c - 3) ≡ same_product c d j
  unfolding product
  whole-chain j v w =
      let s = product-sector c b.obeys.entries.1 v in
      let p = chain_of c b.obeys v in
      let q = chain_of d b.obeys_after w in
      together c d (S c) long (S c - 3) s p.leads (rw S-is at q.leads) (chain-short (element c) (S c) s p)
    where
      long : (i : ℕ) → Sector (S c) i → length (sector c i) ≡ length (sector d i)
      long i s = length-sector c b.obeys i s ∙ sym B-is ∙ sym (length-sector d b.obeys_after i (rw (sym S-is) at s))

  -- ---- entries

  module _ (j : ℕ) {a : ℕ} (place : a ≡ entry_place g j) (x y : ℕ) (p : x ≡ field c (8 * a) 40) (o : y ≡ field d (8 * a) 40) where
    x-is : x ≡ forty c j
    x-is = p ∙ rw (place, entry-is b.shape j)

    y-is : y ≡ forty d j
    y-is = o ∙ rw (place, entry-is b.shape_after j)

    pub other-bits : x ≢ y → false ≡ kept c d j
    unfolding kept
    other-bits h = rw (← x-is, ← y-is, ne_eqb x y h)

    pub empty-same : (r : Bool) → x ≡ y → r ≡ is_product c j → r ≡ false → true ≡ kept c d j
    unfolding kept
    empty-same r h e z = rw (← x-is, ← y-is, eq-eqb x y h, ← e, z)

    pub product-same : (r q : Bool) → (1 ≤ j) × (j ≤ g.entries) → x ≡ y → r ≡ is_product c j → r ≡ true → q ≡ chains_same c d j (g.sectors - 3) → q ≡ kept c d j
    unfolding kept
    product-same r q k h e z w =
        let v = test-product c j (sym e ∙ z) in
        let u : IsProduct d j = record { low = v.low; high = omega (arith, k, b.shape_after.entries-is); full = λ f. v.full (sym x-is ∙ h ∙ y-is ∙ f) } in
        let a : q ≡ same_product c d j = rw (b.shape.sectors_is, whole-chain j v u) at w in
        rw (← x-is, ← y-is, eq-eqb x y h, ← e, z) a

-- ---- a pair of images

pub both : (p : Pair) → Both p.before.image.now p.after.now p.before.shape
both p =
    let o = p.one_shape in
    record { obeys = (accepts p.before.image.now).0 o.accepted; obeys_after = (accepts p.after.now).0 o.accepted_after; shape = p.before.shaped; shape_after = o.shape_after }

-- ---- the flags

-- the first k flags are those of the entries 1, .., k
pub record Flagged (c d f : List ℕ) (n k : ℕ) : Type 0 where
  pub many : length f ≡ n
  pub reached : k ≤ n
  pub so_far : take k f ≡ flags_to c d k

pub flags-start : (c d f : List ℕ) (n : ℕ) → length f ≡ n → Flagged c d f n 0
unfolding flags_to
flags-start c d f n e = record { many = e; reached = omega arith; so_far = refl }

pub flags-more : (c d f : List ℕ) (n k v : ℕ) → k < n → v ≡ flag_of (kept c d (k + 1)) → Flagged c d f n k → Flagged c d (set f k v) n (k + 1)
unfolding flags_to
flags-more c d f n k v h e r =
    let l = r.many in
    record {
      many = length-set f k v ∙ l;
      reached = omega arith;
      so_far = rw (add-one k, take-suc-set f k v (omega arith), r.so_far, e, add-one k);
    }

pub flags-end : (c d f : List ℕ) (n k : ℕ) → n ≤ k → Flagged c d f n k → f ≡ flags_to c d n
flags-end c d f n k h r =
    let l = r.many in
    let q : k ≡ n = omega (arith, r.reached) in
    sym (take_all k f (omega arith)) ∙ r.so_far ∙ rw q

-- What a step does: nothing, or it stores within one region of its product, which spares all that the image's rules look at but the end of
-- its own chain. Assumes nothing.
use mathlib.Core.Path.{◌≡◌, refl}
use mathlib.Core.Bool.{Bool, true, false}
use mathlib.Core.List.{List, [], ◌∷◌}
use Prim.Native.Nat.{ℕ, zero, suc, ◌+◌, ◌-◌, ◌*◌, ◌≤◌}
use native.Mathlib.Decide.{dec_lt}
use native.Mathlib.Omega.{arith}
use Rattle.bits.specs.Bits.{Bytes}
use Rattle.bits.proofs.Laws.{field-store}
use Rattle.fields.specs.declared.Span.{Span}
use Rattle.fields.specs.declared.Layout.{Layout}
use Rattle.fields.specs.Lists.{span, list_of, bit_after, nth}
use Rattle.fields.specs.Ends.{start_of}
use Rattle.fields.specs.Fields.{stores, shifted}
use Rattle.fields.proofs.Joined.{lists-joined, within}
use Rattle.fields.proofs.Only.{Inside, joined-inside, shifted-inside, Only, only_stores}
use Rattle.chains.specs.Chain.{Sector, Ends, used, blocked, last_of}
use Rattle.chains.specs.Psi.{Ψ}
use Rattle.chains.proofs.Laws.{last-ends, last-in, chain-sectors}
use Rattle.chains.proofs.PsiLaws.{psi-is}
use Rattle.rules.specs.Claim.{Kept}
use Rattle.rules.specs.First.{first}
use Rattle.rules.proofs.ClaimLaws.{Numbered, found, Found, none, one, kept_fails}
use Rattle.ticket.specs.Kind.{count_of}
use Rattle.ticket.proofs.Listed as kinds
use Rattle.image.specs.Image.{B, S, sector_at, element, sectors, mark}
use Rattle.image.specs.Verdict.{is_product, verdict}
use Rattle.image.specs.Bounds.{Bounds}
use Rattle.image.specs.Obeys.{IsProduct}
use Rattle.image.specs.Facts.{Facts}
use Rattle.image.specs.Product.{Product, element_at, product_at}
use Rattle.image.specs.Seen.{seen}
use Rattle.image.proofs.Exact.{test-product, product_test, product-sector, accepts}
use Rattle.image.proofs.Accepted.{facts_bounds}
use Rattle.image.proofs.Same.{Spares, Same, same, spares-sector, spares-element, element_in_lem}
use Rattle.image.proofs.Stays.{chain_of}
use Rattle.steps.specs.Step.{Step, write, write_all, set_mark, owner, layout_of, step_rules, target, new_values}
use Rattle.steps.specs.Steps.{answer, places_of, values_of, next}

-- ---- whether a step is taken

pub numbered : (p : Product) (s : Step) → Numbered (step_rules p s)
unfolding step_rules
numbered p (write j n v) = omega arith
numbered p (write_all j t r vs) = omega arith
numbered p (set_mark j m) = omega arith

-- a step that is taken: every rule holds, and it stores what it says where it says
pub record Taken (c : List ℕ) (s : Step) : Type 0 where
  pub obeyed : Facts c
  pub present : IsProduct c (owner s)
  pub kept : Kept (step_rules (product_at c (owner s)) s)
  pub places : places_of (seen c (owner s)) s ≡ target (product_at c (owner s)) s
  pub stored : values_of (seen c (owner s)) s ≡ new_values (product_at c (owner s)) s
  pub answered_zero : (answer c s).number ≡ 0

-- a step is refused and stores nowhere, or it is taken
pub data Act (c : List ℕ) (s : Step) : Type 0 where
  idle : places_of (seen c (owner s)) s ≡ [] → 1 ≤ (answer c s).number → Act c s
  acts : Taken c s → Act c s

pub kept-first : (p : Product) (s : Step) → first (step_rules p s) ≡ 0 → Kept (step_rules p s)
kept-first p s e = go (found (step_rules p s) (numbered p s)) e
  where
    go : {n : ℕ} → Found (step_rules p s) n → n ≡ 0 → Kept (step_rules p s)
    go (none k) z = k
    go (one a f) z = absurd (omega arith)

pub act : (c : List ℕ) (s : Step) → Act c s
unfolding seen answer
act c s = go (verdict c).number refl (is_product c (owner s)) refl (first (step_rules (product_at c (owner s)) s)) refl
  where
    go : (n : ℕ) → (verdict c).number ≡ n → (b : Bool) → is_product c (owner s) ≡ b → (r : ℕ) → first (step_rules (product_at c (owner s)) s) ≡ r → Act c s
    go (suc n) e b f r g = idle (rw e) (rw e (omega arith))
    go zero e false f r g = idle (rw (e, f)) (rw (e, f) (omega arith))
    go zero e true f (suc r) g = idle (rw (e, f, g)) (rw (e, f, g) (omega arith))
    go zero e true f zero g =
        acts (record { obeyed = (accepts c).0 e; present = test-product c (owner s) f; kept = kept-first (product_at c (owner s)) s g; places = rw (e, f, g); stored = rw (e, f); answered_zero = rw (e, f, g) })

-- a step that answers 0 is taken, and one that does not changes nothing
pub zero-taken : (c : List ℕ) (s : Step) → (answer c s).number ≡ 0 → Taken c s
zero-taken c s e = go (act c s)
  where
    go : Act c s → Taken c s
    go (idle p n) = absurd (omega arith)
    go (acts t) = t

pub refused-same : (c : List ℕ) (s : Step) → 1 ≤ (answer c s).number → next c s ≡ c
unfolding next stores
refused-same c s h = go (act c s)
  where
    go : Act c s → next c s ≡ c
    go (idle p n) = rw p
    go (acts t) = absurd (omega (arith, t.answered_zero))

pub kept-taken : (c : List ℕ) (s : Step) → Facts c → IsProduct c (owner s) → Kept (step_rules (product_at c (owner s)) s) → Taken c s
unfolding seen answer
kept-taken c s o v k =
    let e = (accepts c).1 o in
    let f = product_test c (owner s) v in
    let g = go (found (step_rules (product_at c (owner s)) s) (numbered (product_at c (owner s)) s)) in
    record { obeyed = o; present = v; kept = k; places = rw (e, f, g); stored = rw (e, f); answered_zero = rw (e, f, g) }
  where
    go : {n : ℕ} → Found (step_rules (product_at c (owner s)) s) n → n ≡ 0
    go (none h) = refl
    go (one a h) = absurd (kept_fails h k)

pub next-is : (c : List ℕ) (s : Step) → Taken c s → next c s ≡ stores c (target (product_at c (owner s)) s) (new_values (product_at c (owner s)) s)
unfolding next
next-is c s t = rw (t.places, t.stored)

-- ---- the region that a step stores in

-- the list of the kind of entry j's product
abbrev pub layout_at : List ℕ → ℕ → Layout
layout_at c j = layout_of (product_at c j)

pub facts_at : (c : List ℕ) (j : ℕ) → kinds.Facts (layout_at c j)
facts_at c j = kinds.kind_facts (product_at c j).typ (product_at c j).revision

-- the bits of its fields
abbrev pub fields_at : List ℕ → ℕ → Span
fields_at c j = span (8 * sector_at c j + start_of (layout_at c j)) (bit_after (layout_at c j) - start_of (layout_at c j))

abbrev pub region : List ℕ → Step → Span
region c (write j n v) = fields_at c j
region c (write_all j t r vs) = fields_at c j
region c (set_mark j m) = span (element_at c (last_of (sectors c j))) (Ψ (S c))

-- the last sector of a step's chain
abbrev pub tail : List ℕ → Step → ℕ
tail c s = last_of (sectors c (owner s))

-- the mark that a taken step leaves
abbrev pub new_mark : List ℕ → Step → ℕ
new_mark c (write j n v) = mark c j
new_mark c (write_all j t r vs) = mark c j
new_mark c (set_mark j m) = m

pub numbers : (c : List ℕ) (j n v : ℕ) → Taken c (write j n v) → (1 ≤ n) × (n ≤ count_of (layout_at c j))
unfolding step_rules
numbers c j n v t = t.kept.1.1.1.1.0

-- a record that is taken is of the product's TYP and revision
pub record_kind : (c : List ℕ) (j t r : ℕ) (vs : List ℕ) → Taken c (write_all j t r vs) → (t ≡ (product_at c j).typ) × (r ≡ (product_at c j).revision)
unfolding step_rules
record_kind c j t r vs x = (x.kept.1.0, x.kept.1.1.0)

-- the places of its product that a step writes
abbrev pub written : Layout → Step → List Span
written k (write j n v) = nth (list_of k) (n - 1) ∷ []
written k (write_all j t r vs) = list_of k
written k (set_mark j m) = []

-- they lie where the whole list does
written-inside : (c : List ℕ) (s : Step) → Taken c s → (a n : ℕ) → a ≤ start_of (layout_at c (owner s)) → bit_after (layout_at c (owner s)) ≤ a + n
    → Inside a n (written (layout_at c (owner s)) s)
written-inside c (write j n v) t a m h l =
    let k = layout_at c j in
    let i = numbers c j n v t in
    let w = within (start_of k) (list_of k) (bit_after k) (lists-joined k) (n - 1) (omega arith) in
    ((omega arith, omega arith), tt)
written-inside c (write_all j t r vs) x a m h l = let k = layout_at c j in joined-inside (start_of k) (list_of k) (bit_after k) (lists-joined k) a m h l
written-inside c (set_mark j m) t a n h l = tt

-- so within the first sector
pub first-inside : (c : List ℕ) (s : Step) → Taken c s → Inside 0 (8 * B c) (written (layout_at c (owner s)) s)
first-inside c s t = let f = facts_at c (owner s) in written-inside c s t 0 (8 * B c) (omega arith) (omega (arith, t.obeyed.size_least))

-- and within the bits of the fields
fields-inside : (c : List ℕ) (s : Step) → Taken c s → Inside (fields_at c (owner s)).0 (fields_at c (owner s)).1 (shifted (8 * sector_at c (owner s)) (written (layout_at c (owner s)) s))
fields-inside c s t =
    let k = layout_at c (owner s) in
    shifted-inside (8 * sector_at c (owner s)) (start_of k) (bit_after k - start_of k) (written k s)
    (written-inside c s t (start_of k) (bit_after k - start_of k) (omega arith) (omega arith))

pub inside : (c : List ℕ) (s : Step) → Taken c s → Inside (region c s).0 (region c s).1 (target (product_at c (owner s)) s)
unfolding product_at
inside c (write j n v) t = fields-inside c (write j n v) t
inside c (write_all j t r vs) x = fields-inside c (write_all j t r vs) x
inside c (set_mark j m) t = ((omega arith, omega arith), tt)

ends-mark : (s l m : ℕ) → (1 ≤ m) × (m ≤ 2) → Ends s l (s - m) m
ends-mark s l m h = elim (dec_lt m 2) [
  | yes z ↦ let e : m ≡ 1 = omega arith in rw e (used refl)
  | no z ↦ let e : m ≡ 2 = omega arith in rw e (blocked refl)
]

pub kept-mark : (c : List ℕ) (j m : ℕ) → Taken c (set_mark j m) → (1 ≤ m) × (m ≤ 2)
unfolding step_rules
kept-mark c j m t = t.kept.0

module _ (c : List ℕ) (b : Bytes c) where
  pub only : (s : Step) → Taken c s → Only c (next c s) (region c s).0 (region c s).1
  only s t = rw (next-is c s t) (only_stores c (region c s).0 (region c s).1 _ _ b (inside c s t))

  pub own-sector : (s : Step) → Taken c s → Sector (S c) (owner s)
  own-sector s t = product-sector c t.obeyed.entries.1 t.present

  pub tail-sector : (s : Step) → Taken c s → Sector (S c) (tail c s)
  tail-sector s t =
      let h = chain_of c t.obeyed t.present in
      chain-sectors (element c) (S c) (own-sector s t) h (tail c s) (last-in (element c) (S c) h.leads)

  pub in_bounds : (s : Step) → Taken c s → Bounds c
  in_bounds s t = facts_bounds c t.obeyed

  spares-write : (s : Step) (t : Taken c s) (l : ℕ) → Spares c l (fields_at c (owner s)).0 (fields_at c (owner s)).1
  spares-write s t l =
      let f = facts_at c (owner s) in
      spares-sector c (in_bounds s t) l (owner s) _ _ (own-sector s t) (omega arith) (omega (arith, t.obeyed.size_least))

  spares : (s : Step) (t : Taken c s) → Spares c (tail c s) (region c s).0 (region c s).1
  spares (write j n v) t = spares-write (write j n v) t _
  spares (write_all j t r vs) x = spares-write (write_all j t r vs) x _
  spares (set_mark j m) t = spares-element c (in_bounds (set_mark j m) t) (tail c (set_mark j m)) (tail-sector (set_mark j m) t)

  pub kept_same : (s : Step) (t : Taken c s) → Same c (next c s) (tail c s)
  kept_same s t = same (in_bounds s t) (only s t) (spares s t)

  -- the element of the chain's last sector ends it before and after
  pub old-end : (s : Step) (t : Taken c s) → Ends (S c) (tail c s) (element c (tail c s)) (mark c (owner s))
  old-end s t = last-ends (element c) (S c) (chain_of c t.obeyed t.present).leads

  write-element : (s : Step) (t : Taken c s) → region c s ≡ fields_at c (owner s) → element (next c s) (tail c s) ≡ element c (tail c s)
  write-element s t e =
      let k = tail-sector s t in
      (same (in_bounds s t) (rw e at (only s t)) (spares-write s t 0)).elements_same (tail c s) k (omega arith)

  mark-element : (j m : ℕ) (t : Taken c (set_mark j m)) → element (next c (set_mark j m)) (tail c (set_mark j m)) ≡ S c - m
  unfolding element stores product_at element_at step_rules
  mark-element j m t =
      let q = kept_same (set_mark j m) t in
      let l = tail-sector (set_mark j m) t in
      let k = in_bounds (set_mark j m) t in
      let h = element_in_lem c (tail c (set_mark j m)) l in
      let z = psi-is (S c) (omega arith) k.s_top in
      let m' = kept-mark c j m t in
      rw (q.table_same, q.S_same, next-is c (set_mark j m) t) (field-store c (element_at c (tail c (set_mark j m))) (Ψ (S c)) (S c - m) (omega arith) (omega arith))

  pub new-end : (s : Step) (t : Taken c s) → Ends (S c) (tail c s) (element (next c s) (tail c s)) (new_mark c s)
  new-end (write j n v) t = rw (write-element (write j n v) t refl) (old-end (write j n v) t)
  new-end (write_all j t r vs) x = rw (write-element (write_all j t r vs) x refl) (old-end (write_all j t r vs) x)
  new-end (set_mark j m) t = rw (mark-element j m t) (ends-mark (S c) (tail c (set_mark j m)) m (kept-mark c j m t))

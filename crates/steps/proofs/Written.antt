-- What was written is read: a taken write stores the ticket's list, or one place of it, into the product itself, and the laws of lists say
-- what its fields are then. A step taken twice is the step taken once. Assumes nothing.
use mathlib.Core.Path.{◌≡◌, refl, sym, ap, ap₂, ◌∙◌}
use mathlib.Core.Logic.{inr}
use mathlib.Core.List.{List, [], ◌∷◌, ◌++◌}
use Prim.Native.Nat.{ℕ, ◌+◌, ◌-◌, ◌*◌, ◌≤◌}
use native.Mathlib.Nat.{mul-le-mul_right}
use native.Mathlib.Decide.{ℕ_discrete}
use native.Mathlib.Omega.{arith}
use lib.ListN.{length, set, take, drop}
use Rattle.rules.specs.Claim.{Means}
use Rattle.bits.specs.Bits.{Bytes}
use Rattle.bits.proofs.Laws.{store-store, store-field, bytes_take, bytes_drop}
use Rattle.fields.specs.declared.Span.{Span}
use Rattle.fields.specs.Lists.{list_of, bit_after, nth}
use Rattle.fields.specs.Ends.{start_of}
use Rattle.fields.specs.Fields.{fields, stores, shifted, fit}
use Rattle.fields.proofs.Joined.{lists-joined}
use Rattle.fields.proofs.Laws.{fields-stores, fields-store, length-stores}
use Rattle.fields.proofs.Only.{Inside}
use Rattle.fields.proofs.Parts.{part, around, around-part, stores-part, part-stores, stores-left, stores-again}
use Rattle.chains.specs.Chain.{Sector, Ends, fresh, used, blocked, In, Distinct}
use Rattle.chains.proofs.Laws.{chain-sectors}
use Rattle.ticket.specs.Kind.{limit}
use Rattle.image.specs.Image.{B, S, sector_at, element, sectors, mark, sector, joined, product}
use Rattle.image.specs.Obeys.{IsProduct}
use Rattle.image.specs.Facts.{Facts}
use Rattle.image.specs.Seen.{Seen, seen}
use Rattle.image.specs.Product.{element_at, product_at}
use Rattle.image.proofs.Same.{before-directory}
use Rattle.image.proofs.Stays.{chain_of}
use Rattle.image.proofs.First.{sectors-head, length-sector, bytes-joined, product-size, first-sector}
use Rattle.steps.specs.Step.{Step, write, write_all, set_mark, owner, step_rules, target, new_values}
use Rattle.steps.specs.Steps.{answer_of, answer, places_of, values_of, next}
use Rattle.steps.proofs.Acts.{Taken, Act, idle, acts, act, next-is, refused-same, kept-taken, layout_at, facts_at, first-inside, numbers, kept-mark, own-sector, in_bounds, kept_same, old-end, new_mark}
use Rattle.steps.proofs.Keeps.{stays, product-kept-there, sectors-kept, joined-kept, mark-own, mark-kept, seen-marked, bytes_next}

-- ---- what is written fits

pub record-fits : (c : List ℕ) (j t r : ℕ) (vs : List ℕ) → Taken c (write_all j t r vs) → Means (fit (list_of (layout_at c j)) vs)
unfolding step_rules
record-fits c j t r vs x = x.kept.1.1.1.1.1.1.0

value-fits : (c : List ℕ) (j n v : ℕ) → Taken c (write j n v) → v ≤ limit (layout_at c j) n
unfolding step_rules
value-fits c j n v t = t.kept.1.1.1.1.1.0

-- ---- a write stores into the product

module _ (c : List ℕ) (b : Bytes c) (s : Step) (t : Taken c s) (ps : List Span) (vs : List ℕ) (fits : Inside 0 (8 * B c) ps)
    (is : next c s ≡ stores c (shifted (8 * sector_at c (owner s)) ps) vs) where
  sector-in : sector_at c (owner s) + B c ≤ length c
  sector-in = let g = in_bounds c b s t in omega (arith, before-directory c g (owner s) (own-sector c b s t))

  pub sector-written : sector (next c s) (owner s) ≡ stores (sector c (owner s)) ps vs
  unfolding sector
  sector-written =
      rw ((kept_same c b s t).B_same, (kept_same c b s t).sector_same (owner s), is)
      (part-stores c (sector_at c (owner s)) (B c) ps vs b sector-in fits)

  joined-written : (rest : List ℕ) → Distinct (owner s ∷ rest) → ((x : ℕ) → In x (owner s ∷ rest) → Sector (S c) x)
      → joined (next c s) (owner s ∷ rest) ≡ stores (joined c (owner s ∷ rest)) ps vs
  unfolding joined
  joined-written rest d m =
      ap₂ (λ (x y : List ℕ). x ++ y) sector-written (joined-kept c b s t rest (λ i h. (m i (inr h), λ e. d.0 (rw e h))))
      ∙ stores-left (sector c (owner s)) (joined c rest) ps vs (bytes-joined c b rest)
      (rw (length-sector c t.obeyed (owner s) (own-sector c b s t)) fits)

  pub product-written : product (next c s) (owner s) ≡ stores (product c (owner s)) ps vs
  unfolding product
  product-written =
      let h = chain_of c t.obeyed t.present in
      rw (sectors-kept c b s t (owner s) t.present)
      (go (sectors c (owner s)) (sectors-head h.leads) h.once (chain-sectors (element c) (S c) (own-sector c b s t) h))
    where
      go : (ss : List ℕ) → (rest : List ℕ) × (ss ≡ owner s ∷ rest) → Distinct ss → ((x : ℕ) → In x ss → Sector (S c) x)
          → joined (next c s) ss ≡ stores (joined c ss) ps vs
      go ss (rest, e) d m = rw e (joined-written rest (rw e at d) (rw e at m))

  -- a write that leaves the product as it was leaves the image so
  pub unwritten : product (next c s) (owner s) ≡ product c (owner s) → next c s ≡ c
  unfolding sector
  unwritten e =
      let a = sector_at c (owner s) in
      let h : stores (sector c (owner s)) ps vs ≡ sector c (owner s) =
      sym sector-written
      ∙ sym (first-sector (next c s) (stays c b s t) (product-kept-there c b s t t.present))
      ∙ ap₂ (λ (n : ℕ) (l : List ℕ). take n l) (kept_same c b s t).B_same e
      ∙ first-sector c t.obeyed t.present in
      is
      ∙ sym (stores-part c a (B c) ps vs b sector-in fits)
      ∙ ap (λ (z : List ℕ). around c a (B c) z) h
      ∙ around-part c a (B c)

  -- the same store once more
  pub written-again : stores (stores (sector c (owner s)) ps vs) ps vs ≡ stores (sector c (owner s)) ps vs
      → stores (next c s) (shifted (8 * sector_at c (owner s)) ps) vs ≡ next c s
  unfolding sector
  written-again h =
      let a = sector_at c (owner s) in
      let n = B c in
      let q : part (next c s) a n ≡ stores (part c a n) ps vs = rw is (part-stores c a n ps vs b sector-in fits) in
      let l : length (next c s) ≡ length c = rw is (length-stores c (shifted (8 * a) ps) vs) in
      sym (stores-part (next c s) a n ps vs (bytes_next c s b) (omega (arith, sector-in)) fits)
      ∙ ap (λ (z : List ℕ). around (next c s) a n z) (ap (λ (z : List ℕ). stores z ps vs) q ∙ h ∙ sym q)
      ∙ around-part (next c s) a n

-- ---- read after write

module _ (c : List ℕ) (b : Bytes c) where
  product-long : (s : Step) → Taken c s → bit_after (layout_at c (owner s)) ≤ 8 * length (product c (owner s))
  product-long s t =
      let o = t.obeyed in
      let r = sectors-head (chain_of c o t.present).leads in
      let n : 1 ≤ length (sectors c (owner s)) = rw r.1 (omega arith) in
      omega (arith, (facts_at c (owner s)).ends, product-size c o t.present, o.size_least, mul-le-mul_right {m = 1} (B c) n)

  -- after a taken record write the fields of the product are the values written
  pub record-read : (j t r : ℕ) (vs : List ℕ) → Taken c (write_all j t r vs) → fields (product (next c (write_all j t r vs)) j) (list_of (layout_at c j)) ≡ vs
  unfolding product_at
  record-read j t r vs x =
      let s : Step = write_all j t r vs in
      let k = layout_at c j in
      rw (product-written c b s x (list_of k) vs (first-inside c s x) (next-is c s x))
      (fields-stores (start_of k) (list_of k) (bit_after k) (lists-joined k) (product c j) vs (product-long s x) (record-fits c j t r vs x))

  -- after a taken field write the field is the value, and every other field is as before
  pub field-read : (j n v : ℕ) → Taken c (write j n v)
      → fields (product (next c (write j n v)) j) (list_of (layout_at c j)) ≡ set (fields (product c j) (list_of (layout_at c j))) (n - 1) v
  unfolding product_at stores
  field-read j n v t =
      let s : Step = write j n v in
      let k = layout_at c j in
      let h = numbers c j n v t in
      rw (product-written c b s t (nth (list_of k) (n - 1) ∷ []) (v ∷ []) (first-inside c s t) (next-is c s t))
      (fields-store (start_of k) (list_of k) (bit_after k) (lists-joined k) (product c j) v (n - 1) (omega (arith, h)) (product-long s t) (value-fits c j n v t))

-- ---- twice is once

next_by_lem : (c : List ℕ) (s : Step) → next c s ≡ stores c (places_of (seen c (owner s)) s) (values_of (seen c (owner s)) s)
unfolding next
next_by_lem c s = refl

bytes-sector : (c : List ℕ) → Bytes c → (i : ℕ) → Bytes (sector c i)
unfolding sector
bytes-sector c b i = bytes_take (B c) (drop (sector_at c i) c) (bytes_drop (sector_at c i) c b)

-- a write keeps all that a step looks at
pub seen-write : (c : List ℕ) → Bytes c → (s : Step) → Taken c s → new_mark c s ≡ mark c (owner s) → (j : ℕ) → seen (next c s) j ≡ seen c j
seen-write c b s t w j =
    seen-marked c b s t j (λ v. elim (ℕ_discrete (owner s) j) [ yes e ↦ rw (← e) (mark-own c b s t ∙ w) | no e ↦ mark-kept c b s t j v e ])

ends_is : {s l x m : ℕ} → Ends s l x m → 1 ≤ m → x ≡ s - m
ends_is (fresh e) h = absurd (omega arith)
ends_is (used e) h = e
ends_is (blocked e) h = e

mark-taken : (c : List ℕ) (j m : ℕ) → Bytes c → mark c j ≡ m → Taken c (set_mark j m) → next c (set_mark j m) ≡ c
unfolding product_at stores element element_at
mark-taken c j m b e t =
    let x = ends_is (old-end c b (set_mark j m) t) (omega (arith, (kept-mark c j m t).0)) in
    rw (next-is c (set_mark j m) t, ← e, ← x) (store-field c _ _ b)

-- a mark already set is accepted
pub mark-accepted : (c : List ℕ) (j m : ℕ) → Facts c → IsProduct c j → (1 ≤ m) × (m ≤ 2) → mark c j ≡ m → (answer c (set_mark j m)).number ≡ 0
unfolding step_rules product_at
mark-accepted c j m o v k e = (kept-taken c (set_mark j m) o v (k, (omega arith, tt))).answered_zero

-- and changes nothing
pub mark-again : (c : List ℕ) (j m : ℕ) → Bytes c → mark c j ≡ m → next c (set_mark j m) ≡ c
mark-again c j m b e = go (act c (set_mark j m))
  where
    go : Act c (set_mark j m) → next c (set_mark j m) ≡ c
    go (idle p n) = refused-same c (set_mark j m) n
    go (acts t) = mark-taken c j m b e t

-- a step that sees the same stores the same
next-again : (c : List ℕ) (s : Step) → Taken c s → seen (next c s) (owner s) ≡ seen c (owner s)
    → next (next c s) s ≡ stores (next c s) (target (product_at c (owner s)) s) (new_values (product_at c (owner s)) s)
next-again c s t e =
    next_by_lem (next c s) s
    ∙ ap₂ (λ (ps : List Span) (vs : List ℕ). stores (next c s) ps vs) (ap (λ (z : Seen). places_of z s) e ∙ t.places) (ap (λ (z : Seen). values_of z s) e ∙ t.stored)

-- a step taken twice is the step taken once
pub again : (c : List ℕ) (s : Step) → Bytes c → Taken c s → next (next c s) s ≡ next c s
unfolding product_at stores
again c (write j n v) b t =
    let s : Step = write j n v in
    let p = nth (list_of (layout_at c j)) (n - 1) in
    next-again c s t (seen-write c b s t refl j)
    ∙ written-again c b s t (p ∷ []) (v ∷ []) (first-inside c s t) (next-is c s t) (store-store (sector c j) p.0 p.1 v v)
again c (write_all j t r vs) b x =
    let s : Step = write_all j t r vs in
    let k = layout_at c j in
    next-again c s x (seen-write c b s x refl j)
    ∙ written-again c b s x (list_of k) vs (first-inside c s x) (next-is c s x)
    (stores-again (start_of k) (list_of k) (bit_after k) (lists-joined k) (sector c j) vs (bytes-sector c b j)
    (omega (arith, (facts_at c j).ends, length-sector c x.obeyed j (own-sector c b s x), x.obeyed.size_least)) (record-fits c j t r vs x))
again c (set_mark j m) b t = mark-again (next c (set_mark j m)) j m (bytes_next c (set_mark j m) b) (mark-own c b (set_mark j m) t)

-- and the second is taken too: it sees the same, but for its own mark
pub again-taken : (c : List ℕ) (s : Step) → Bytes c → Taken c s → (answer (next c s) s).number ≡ 0
unfolding answer
again-taken c (write j n v) b t =
    ap (λ (z : Seen). (answer_of z (write j n v)).number) (seen-write c b (write j n v) t refl j) ∙ t.answered_zero
again-taken c (write_all j t r vs) b x =
    ap (λ (z : Seen). (answer_of z (write_all j t r vs)).number) (seen-write c b (write_all j t r vs) x refl j) ∙ x.answered_zero
again-taken c (set_mark j m) b t =
    let s : Step = set_mark j m in
    mark-accepted (next c s) j m (stays c b s t) (product-kept-there c b s t t.present) (kept-mark c j m t) (mark-own c b s t)

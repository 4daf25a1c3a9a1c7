-- What a taken step keeps: the image stays acceptable, with its shell, its entries and every chain's sectors; every other product and mark;
-- and its own mark unless it is a mark. For it stores in one region, which lies in the first sector of its chain or is the end of it.
-- Assumes nothing.
use mathlib.Core.Path.{◌≡◌, refl, sym, ap, ap₂, ◌∙◌}
use mathlib.Core.Logic.{◌↔◌, ◌≢◌, inl, inr}
use mathlib.Core.Bool.{Bool, true, false}
use mathlib.Core.List.{List, [], ◌∷◌, ◌++◌}
use Prim.Native.Nat.{ℕ, ◌+◌, ◌*◌, ◌≤◌}
use native.Mathlib.Nat.{add-zero}
use native.Mathlib.Decide.{dec_lt}
use native.Mathlib.Omega.{arith}
use lib.ListN.{length, drop}
use Rattle.bits.specs.Bits.{Bytes, field}
use Rattle.bits.proofs.Laws.{Apart, field-drop}
use Rattle.fields.specs.declared.Span.{Span}
use Rattle.fields.specs.declared.Layout.TheVariants.{Entry}
use Rattle.fields.specs.Lists.{span}
use Rattle.fields.specs.Ends.{start_of}
use Rattle.fields.specs.Fields.{value_at}
use Rattle.fields.proofs.Laws.{bytes-stores}
use Rattle.fields.proofs.Only.{only_part}
use Rattle.chains.specs.Chain.{Sector, In}
use Rattle.chains.specs.Psi.{Ψ}
use Rattle.chains.proofs.Laws.{last-in, chain-sectors}
use Rattle.image.specs.Image.{shell_values, B, S, e#, sector_at, entry_at, table_at, element, sectors, mark, sector, joined, product}
use Rattle.image.specs.Verdict.{is_product, verdict}
use Rattle.image.specs.Obeys.{IsProduct, Obeys, accepted}
use Rattle.image.specs.Facts.{Facts}
use Rattle.image.specs.Product.{Product, element_at, product_at}
use Rattle.image.specs.Seen.{seen_by, seen}
use Rattle.image.proofs.Exact.{test-product, product-sector, exact, facts-obeys}
use Rattle.image.proofs.Same.{element_in_lem, sector-before, before-directory}
use Rattle.image.proofs.Stays.{chain_of, no-common, entry_same, product-there, product-back, is-product-same, obeys, sectors-same, mark-same, mark-new}
use Rattle.image.proofs.First.{first_in, product-first, product-size}
use Rattle.steps.specs.Step.{Step, write, write_all, set_mark, owner}
use Rattle.steps.specs.Steps.{next}
use Rattle.steps.specs.Touched.{forty}
use Rattle.steps.proofs.Acts.{Taken, Act, idle, acts, act, refused-same, layout_at, facts_at, fields_at, region, tail, new_mark, only, tail-sector, in_bounds, kept_same, old-end, new-end}

pub bytes_next : (c : List ℕ) (s : Step) → Bytes c → Bytes (next c s)
unfolding next
bytes_next c s b = bytes-stores c _ _ b

-- a region lies in the first sector of the chain, past the header, or is the element of its last
pub data Where (c : List ℕ) (s : Step) : Span → Type 0 where
  body : (p w : ℕ) → 16 ≤ p → p + w ≤ 8 * B c → Where c s (span (8 * sector_at c (owner s) + p) w)
  link : Where c s (span (element_at c (tail c s)) (Ψ (S c)))

where-fields : (c : List ℕ) (s : Step) → Taken c s → Where c s (fields_at c (owner s))
where-fields c s t =
    let f = facts_at c (owner s) in
    body (start_of (layout_at c (owner s))) (fields_at c (owner s)).1 (omega arith) (omega (arith, t.obeyed.size_least))

pub where-is : (c : List ℕ) (s : Step) → Taken c s → Where c s (region c s)
where-is c (write j n v) t = where-fields c (write j n v) t
where-is c (write_all j t r vs) x = where-fields c (write_all j t r vs) x
where-is c (set_mark j m) t = link

-- an acceptable image has the verdict 0, 0
pub verdict_ok : (c : List ℕ) → Facts c → ((verdict c).number ≡ 0) × ((verdict c).entry ≡ 0)
verdict_ok c o = (exact c 0 0).1 (accepted (facts-obeys c o))

module _ (c : List ℕ) (b : Bytes c) (s : Step) (t : Taken c s) where
  pub stays : Facts (next c s)
  stays = obeys t.obeyed (kept_same c b s t) (old-end c b s t) (new-end c b s t)

  -- ---- entries and chains

  pub entry_kept : (j : ℕ) → 1 ≤ j → j ≤ e# c → forty (next c s) j ≡ forty c j
  entry_kept j l h = simp add-zero at (entry_same t.obeyed (kept_same c b s t) (old-end c b s t) (new-end c b s t) j 0 40 l h (omega arith))

  pub product-kept-there : {j : ℕ} → IsProduct c j → IsProduct (next c s) j
  product-kept-there v = product-there t.obeyed (kept_same c b s t) (old-end c b s t) (new-end c b s t) v

  pub product-kept-back : {j : ℕ} → IsProduct (next c s) j → IsProduct c j
  product-kept-back v = product-back t.obeyed (kept_same c b s t) (old-end c b s t) (new-end c b s t) v

  pub sectors-kept : (j : ℕ) → IsProduct c j → sectors (next c s) j ≡ sectors c j
  sectors-kept j v = sectors-same t.obeyed (kept_same c b s t) (old-end c b s t) (new-end c b s t) v

  -- the chain of another product does not pass the last sector of the step's
  not-tail : (j : ℕ) → IsProduct c j → owner s ≢ j → In (tail c s) (sectors c j) → ⊥
  not-tail j v d h =
      no-common c t.obeyed t.present v d
      (tail c s, last-in (element c) (S c) (chain_of c t.obeyed t.present).leads, h)

  pub mark-kept : (j : ℕ) → IsProduct c j → owner s ≢ j → mark (next c s) j ≡ mark c j
  mark-kept j v d = mark-same t.obeyed (kept_same c b s t) (old-end c b s t) (new-end c b s t) v (not-tail j v d)

  pub mark-own : mark (next c s) (owner s) ≡ new_mark c s
  mark-own = mark-new t.obeyed (kept_same c b s t) (old-end c b s t) (new-end c b s t) t.present refl

  -- ---- sectors and products

  -- every sector but the first of the step's chain
  pub sector-kept : (i : ℕ) → Sector (S c) i → owner s ≢ i → sector (next c s) i ≡ sector c i
  unfolding sector table_at
  sector-kept i k other =
      rw ((kept_same c b s t).B_same, (kept_same c b s t).sector_same i) (only_part (only c b s t) (sector_at c i) (B c) (apart (where-is c s t)))
    where
      apart : {p : Span} → Where c s p → Apart p.0 p.1 (8 * sector_at c i) (8 * B c)
      apart (body p w g h) = elim (dec_lt (owner s) i) [
        | yes l ↦ inl (omega (arith, sector-before c (owner s) i l))
        | no l ↦ inr (omega (arith, sector-before c i (owner s) (omega (arith, other))))
      ]
      apart link = inr (omega (arith, before-directory c (in_bounds c b s t) i k, (element_in_lem c (tail c s) (tail-sector c b s t)).0))

  pub joined-kept : (is : List ℕ) → ((i : ℕ) → In i is → Sector (S c) i × (owner s ≢ i)) → joined (next c s) is ≡ joined c is
  unfolding joined
  joined-kept [] h = refl
  joined-kept (i ∷ is) h =
      ap₂ (λ (x y : List ℕ). x ++ y) (sector-kept i (h i (inl refl)).0 (h i (inl refl)).1) (joined-kept is (λ k m. h k (inr m)))

  -- every byte of every other product
  pub product-kept : (j : ℕ) → IsProduct c j → owner s ≢ j → product (next c s) j ≡ product c j
  unfolding product
  product-kept j v d =
      rw (sectors-kept j v)
      (joined-kept (sectors c j) (λ i h. (
        chain-sectors (element c) (S c) (product-sector c o.entries.1 v) (chain_of c o v) i h,
        λ e. no-common c o t.present v d (owner s, first_in (chain_of c o t.present).leads, rw e h),
      )))
    where
      o : Facts c
      o = t.obeyed

  -- ---- what is seen of a product

  typ-kept : (j : ℕ) → IsProduct c j → value_at Entry 2 (drop (entry_at (next c s) j) (next c s)) ≡ value_at Entry 2 (drop (entry_at c j) c)
  typ-kept j v =
      field-drop (next c s) (entry_at (next c s) j) 14 5
      ∙ entry_same t.obeyed (kept_same c b s t) (old-end c b s t) (new-end c b s t) j 14 5 v.low v.high (omega arith)
      ∙ sym (field-drop c (entry_at c j) 14 5)

  pub header-kept : (j p w : ℕ) → IsProduct c j → p + w ≤ 16 → field (product (next c s) j) p w ≡ field (product c j) p w
  header-kept j p w v h =
      let q = kept_same c b s t in
      product-first (next c s) stays (product-kept-there v) p w (omega (arith, stays.size_least))
      ∙ ap (λ (x : ℕ). field (next c s) (8 * x + p) w) (q.sector_same j)
      ∙ q.headers_same j p w (product-sector c t.obeyed.entries.1 v) h
      ∙ sym (product-first c t.obeyed v p w (omega (arith, t.obeyed.size_least)))

  pub size-kept : (j : ℕ) → IsProduct c j → length (product (next c s) j) ≡ length (product c j)
  size-kept j v =
      product-size (next c s) stays (product-kept-there v)
      ∙ ap₂ (λ (x : List ℕ) (y : ℕ). length x * y) (sectors-kept j v) (kept_same c b s t).B_same
      ∙ sym (product-size c t.obeyed v)

  pub product-same : (j : ℕ) → IsProduct c j → mark (next c s) j ≡ mark c j → product_at (next c s) j ≡ product_at c j
  unfolding product_at element_at
  product-same j v d =
      let q = kept_same c b s t in
      rw (q.sector_same j, q.table_same, q.S_same, sectors-kept j v, d, typ-kept j v, header-kept j 12 4 v (omega arith), header-kept j 0 6 v (omega arith), size-kept j v)

  -- what is seen of a product depends on the step only through the mark
  pub seen-marked : (j : ℕ) → (IsProduct c j → mark (next c s) j ≡ mark c j) → seen (next c s) j ≡ seen c j
  unfolding seen
  seen-marked j d =
      let o = t.obeyed in
      let v = verdict_ok c o in
      let w = verdict_ok (next c s) stays in
      rw (v.0, w.0, is-product-same o (kept_same c b s t) (old-end c b s t) (new-end c b s t) j) (go (is_product c j) refl)
    where
      go : (x : Bool) → is_product c j ≡ x → seen_by 0 (verdict (next c s)).entry x (product_at (next c s) j) ≡ seen_by 0 (verdict c).entry x (product_at c j)
      go true e = ap (λ (p : Product). seen_by 0 (verdict c).entry true p) (product-same j (test-product c j e) (d (test-product c j e)))
      go false e = refl

-- Any step, taken or refused, keeps an acceptable image acceptable, with its shell and its products, each with its sectors; every other product
-- keeps its bytes and its mark.
pub all-stays : (c : List ℕ) (s : Step) → Bytes c → Obeys c → Obeys (next c s) × (shell_values (next c s) ≡ shell_values c)
    × ((j : ℕ) → IsProduct c j ↔ IsProduct (next c s) j) × ((j : ℕ) → IsProduct c j → sectors (next c s) j ≡ sectors c j)
    × ((j : ℕ) → IsProduct c j → owner s ≢ j → (product (next c s) j ≡ product c j) × (mark (next c s) j ≡ mark c j))
all-stays c s b o = go (act c s)
  where
    go : Act c s → Obeys (next c s) × (shell_values (next c s) ≡ shell_values c)
        × ((j : ℕ) → IsProduct c j ↔ IsProduct (next c s) j) × ((j : ℕ) → IsProduct c j → sectors (next c s) j ≡ sectors c j)
        × ((j : ℕ) → IsProduct c j → owner s ≢ j → (product (next c s) j ≡ product c j) × (mark (next c s) j ≡ mark c j))
    go (idle e n) = rw (refused-same c s n) (o, refl, (λ j. ((λ v. v), λ v. v)), (λ j v. refl), λ j v d. (refl, refl))
    go (acts t) = (
      facts-obeys (next c s) (stays c b s t),
      (kept_same c b s t).values_same,
      (λ j. (product-kept-there c b s t, product-kept-back c b s t)),
      sectors-kept c b s t,
      λ j v d. (product-kept c b s t j v d, mark-kept c b s t j v d),
    )

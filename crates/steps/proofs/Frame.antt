-- The frame: a field write alters its field's bits alone, a record write those of its kind's fields, a mark the one table element of its
-- chain's last sector; so no step alters a bit outside its chain's sectors and that element, and a refused one none. Assumes nothing.
use mathlib.Core.Path.{◌≡◌, ap}
use mathlib.Core.Logic.{inl, inr, ⊎_elim}
use mathlib.Core.List.{List, [], ◌∷◌}
use Prim.Native.Nat.{ℕ, ◌+◌, ◌-◌, ◌*◌, ◌≤◌}
use native.Mathlib.Omega.{arith}
use lib.ListN.{length}
use Rattle.bits.specs.Bits.{Bytes, bit, Outside}
use Rattle.fields.specs.declared.Span.{Span}
use Rattle.fields.specs.Lists.{list_of, bit_after, nth}
use Rattle.fields.specs.Fields.{shifted}
use Rattle.fields.proofs.Only.{Only, only_stores}
use Rattle.fields.proofs.Laws.{length-stores}
use Rattle.chains.specs.Chain.{In, last_of}
use Rattle.chains.specs.Psi.{Ψ}
use Rattle.image.specs.Image.{B, S, SCTL, sector_at, table_at, sectors}
use Rattle.image.specs.Product.{element_at, product_at}
use Rattle.image.proofs.Same.{element_in_lem, before-directory}
use Rattle.image.proofs.Stays.{chain_of}
use Rattle.image.proofs.First.{first_in}
use Rattle.steps.specs.Step.{Step, write, write_all, set_mark, owner}
use Rattle.steps.specs.Steps.{next}
use Rattle.steps.proofs.Acts.{Taken, Act, idle, acts, act, layout_at, facts_at, tail, only, tail-sector, own-sector, in_bounds, next-is, refused-same}
use Rattle.steps.proofs.Keeps.{Where, body, link, where-is}

pub field-frame : (c : List ℕ) (j n v : ℕ) → Bytes c → Taken c (write j n v)
    → Only c (next c (write j n v)) (8 * sector_at c j + (nth (list_of (layout_at c j)) (n - 1)).0) (nth (list_of (layout_at c j)) (n - 1)).1
unfolding product_at shifted
field-frame c j n v b t =
    rw (next-is c (write j n v) t) (only_stores c (8 * sector_at c j + (nth (list_of (layout_at c j)) (n - 1)).0) (nth (list_of (layout_at c j)) (n - 1)).1 _ (v ∷ []) b ((omega arith, omega arith), tt))

pub record-frame : (c : List ℕ) (j t r : ℕ) (vs : List ℕ) → Bytes c → Taken c (write_all j t r vs)
    → Only c (next c (write_all j t r vs)) (8 * sector_at c j + 16) (bit_after (layout_at c j) - 16)
record-frame c j t r vs b x = rw (facts_at c j).starts at (only c b (write_all j t r vs) x)

-- whatever the image
pub record_outside : (c : List ℕ) (j t r : ℕ) (vs : List ℕ) → Bytes c → (i : ℕ) → Outside (8 * sector_at c j + 16) (bit_after (layout_at c j) - 16) i
    → bit (next c (write_all j t r vs)) i ≡ bit c i
record_outside c j t r vs b i o = go (act c (write_all j t r vs))
  where
    go : Act c (write_all j t r vs) → bit (next c (write_all j t r vs)) i ≡ bit c i
    go (idle e n) = ap (λ (l : List ℕ). bit l i) (refused-same c (write_all j t r vs) n)
    go (acts x) = (record-frame c j t r vs b x).outside i o

pub mark-frame : (c : List ℕ) (j m : ℕ) → Bytes c → Taken c (set_mark j m) → Only c (next c (set_mark j m)) (element_at c (last_of (sectors c j))) (Ψ (S c))
mark-frame c j m b t = only c b (set_mark j m) t

-- whatever the image and the step
pub frame : (c : List ℕ) (s : Step) → Bytes c → (i : ℕ) → ((k : ℕ) → In k (sectors c (owner s)) → Outside (8 * sector_at c k) (8 * B c) i)
    → Outside (element_at c (last_of (sectors c (owner s)))) (Ψ (S c)) i → bit (next c s) i ≡ bit c i
frame c s b i apart away = go (act c s)
  where
    go : Act c s → bit (next c s) i ≡ bit c i
    go (idle e n) = ap (λ (l : List ℕ). bit l i) (refused-same c s n)
    go (acts t) = (only c b s t).outside i (out (where-is c s t))
      where
        out : {p : Span} → Where c s p → Outside p.0 p.1 i
        out (body p w g h) =
            ⊎_elim (λ o. inl (omega arith)) (λ o. inr (omega arith)) (apart (owner s) (first_in (chain_of c t.obeyed t.present).leads))
        out link = away

-- no bit after the chain table: DIRS#, the instance identifier and the seal stay as they are
pub after_table : (c : List ℕ) (s : Step) → Bytes c → (i : ℕ) → 8 * (table_at c + SCTL c) ≤ i → bit (next c s) i ≡ bit c i
unfolding table_at
after_table c s b i h = go (act c s)
  where
    go : Act c s → bit (next c s) i ≡ bit c i
    go (idle e n) = ap (λ (l : List ℕ). bit l i) (refused-same c s n)
    go (acts t) = (only c b s t).outside i (inr (before (where-is c s t)))
      where
        before : {p : Span} → Where c s p → p.0 + p.1 ≤ i
        before (body p w g l) = omega (arith, before-directory c (in_bounds c b s t) (owner s) (own-sector c b s t))
        before link = omega (arith, (element_in_lem c (tail c s) (tail-sector c b s t)).1, (in_bounds c b s t).elements-in)

-- and no byte comes or goes
pub length-next : (c : List ℕ) (s : Step) → length (next c s) ≡ length c
unfolding next
length-next c s = length-stores c _ _

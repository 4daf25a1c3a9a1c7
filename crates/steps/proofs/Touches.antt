-- A step touches no entry but the one it names, and that one only where it is taken; and a step that changes the image does touch it: for a
-- write that leaves its product as it was, and a mark that was there, change nothing. Assumes nothing.
use mathlib.Core.Path.{◌≡◌, refl, sym, ap, ◌∙◌}
use mathlib.Core.Logic.{◌≢◌, ◌⊎◌, inl, inr, ⊎_elim}
use mathlib.Core.List.{List, [], ◌∷◌}
use Prim.Native.Nat.{ℕ, zero, suc, ◌-◌, ◌≤◌}
use native.Mathlib.Decide.{ℕ_discrete}
use native.Mathlib.Omega.{arith}
use lib.ListN.{length, get_or}
use Rattle.bits.specs.Bits.{Bytes}
use Rattle.fields.specs.Lists.{list_of, nth}
use Rattle.image.specs.Image.{e#, sectors, mark, product}
use Rattle.image.specs.Obeys.{IsProduct}
use Rattle.image.specs.Product.{product_at}
use Rattle.steps.specs.Step.{Step, write, write_all, set_mark, owner}
use Rattle.steps.specs.Steps.{answer, next}
use Rattle.steps.specs.Touched.{forty, Touched, entry, chain, marked, byte}
use Rattle.steps.proofs.Acts.{Taken, Act, idle, acts, act, next-is, refused-same, kept_same, layout_at, first-inside}
use Rattle.steps.proofs.Keeps.{entry_kept, product-kept-there, sectors-kept, mark-kept, mark-own, product-kept, size-kept}
use Rattle.steps.proofs.Written.{unwritten, mark-again}

-- entry j is as it was
pub record Untouched (c d : List ℕ) (j : ℕ) : Type 0 where
  pub many : e# d ≡ e# c
  pub bits_kept : 1 ≤ j → j ≤ e# c → forty d j ≡ forty c j
  pub is_kept : IsProduct c j → IsProduct d j
  pub chain-kept : IsProduct c j → sectors d j ≡ sectors c j
  pub mark_kept' : IsProduct c j → mark d j ≡ mark c j
  pub bytes_kept : IsProduct c j → product d j ≡ product c j

pub not-touched : {c d : List ℕ} {j : ℕ} → Untouched c d j → Touched c d j → ⊥
not-touched u (entry a b h) = h (u.bits_kept a b)
not-touched u (chain v h) = h (u.chain-kept v)
not-touched u (marked v h) = h (u.mark_kept' v)
not-touched u (byte k v h) = h (ap (λ (l : List ℕ). get_or l k 0) (u.bytes_kept v))

pub untouched-same : (c : List ℕ) (j : ℕ) → Untouched c c j
untouched-same c j = record { many = refl; bits_kept = λ a b. refl; is_kept = λ v. v; chain-kept = λ v. refl; mark_kept' = λ v. refl; bytes_kept = λ v. refl }

pub untouched-then : {c d e : List ℕ} {j : ℕ} → Untouched c d j → Untouched d e j → Untouched c e j
untouched-then x y = record {
  many = y.many ∙ x.many;
  bits_kept = λ a b. y.bits_kept a (omega (arith, x.many)) ∙ x.bits_kept a b;
  is_kept = λ v. y.is_kept (x.is_kept v);
  chain-kept = λ v. y.chain-kept (x.is_kept v) ∙ x.chain-kept v;
  mark_kept' = λ v. y.mark_kept' (x.is_kept v) ∙ x.mark_kept' v;
  bytes_kept = λ v. y.bytes_kept (x.is_kept v) ∙ x.bytes_kept v;
}

-- whatever the image: unless the step is taken and names it
pub untouched : (c : List ℕ) (s : Step) (j : ℕ) → Bytes c → ((answer c s).number ≡ 0 → owner s ≢ j) → Untouched c (next c s) j
untouched c s j b d = go (act c s)
  where
    go : Act c s → Untouched c (next c s) j
    go (idle p n) = rw (refused-same c s n) (untouched-same c j)
    go (acts t) =
        let other = d t.answered_zero in
        record {
          many = (kept_same c b s t).e#_same;
          bits_kept = λ l h. entry_kept c b s t j l h;
          is_kept = λ v. product-kept-there c b s t v;
          chain-kept = λ v. sectors-kept c b s t j v;
          mark_kept' = λ v. mark-kept c b s t j v other;
          bytes_kept = λ v. product-kept c b s t j v other;
        }

-- ---- what does touch

-- lists of one length are equal, or differ somewhere
pub differ : (l m : List ℕ) → length l ≡ length m → (l ≡ m) ⊎ ((k : ℕ) × (get_or l k 0 ≢ get_or m k 0))
differ [] [] e = inl refl
differ [] (y ∷ m) e = absurd (omega arith)
differ (x ∷ l) [] e = absurd (omega arith)
differ (x ∷ l) (y ∷ m) e = elim (ℕ_discrete x y) [
  | no h ↦ inr (zero, h)
  | yes h ↦ ⊎_elim (λ (q : l ≡ m). inl (rw (h, q))) (λ r. inr (suc r.0, r.1)) (differ l m (omega arith))
]

module _ (c : List ℕ) (b : Bytes c) where
  bytes-touched : (s : Step) (t : Taken c s) → (product (next c s) (owner s) ≡ product c (owner s) → next c s ≡ c) → next c s ≢ c → Touched c (next c s) (owner s)
  bytes-touched s t w d =
      ⊎_elim (λ e. absurd (d (w e))) (λ r. byte r.0 t.present r.1)
      (differ (product (next c s) (owner s)) (product c (owner s)) (size-kept c b s t (owner s) t.present))

  taken-touches : (s : Step) → Taken c s → next c s ≢ c → Touched c (next c s) (owner s)
  unfolding product_at
  taken-touches (write j n v) t d =
      let s : Step = write j n v in
      bytes-touched s t (unwritten c b s t (nth (list_of (layout_at c j)) (n - 1) ∷ []) (v ∷ []) (first-inside c s t) (next-is c s t)) d
  taken-touches (write_all j t r vs) x d =
      let s : Step = write_all j t r vs in
      bytes-touched s x (unwritten c b s x (list_of (layout_at c j)) vs (first-inside c s x) (next-is c s x)) d
  taken-touches (set_mark j m) t d = marked t.present (λ e. d (mark-again c j m b (sym e ∙ mark-own c b (set_mark j m) t)))

-- a step that changes the image touches the entry that it names
pub touches : (c : List ℕ) (s : Step) → Bytes c → next c s ≢ c → Touched c (next c s) (owner s)
touches c s b d = go (act c s)
  where
    go : Act c s → Touched c (next c s) (owner s)
    go (idle p n) = absurd (d (refused-same c s n))
    go (acts t) = taken-touches c b s t d

-- A record whose list is all of its bytes: decoding and encoding undo each other, and what is refused is what the rule says, over any such
-- list, since `pack_number` is 0 exactly where every value fits. Assumes nothing.
use mathlib.Core.Path.{◌≡◌, refl, sym, ap, ◌∙◌}
use mathlib.Core.Logic.{◌↔◌, ◌≢◌}
use mathlib.Core.Bool.{Bool, true, false}
use mathlib.Core.List.{List}
use Prim.Native.Nat.{ℕ, ◌*◌}
use native.Mathlib.Omega.{arith}
use lib.ListN.{length, replicate, length-replicate}
use lib.Dec.{T}
use Rattle.bits.specs.Bits.{Bytes}
use Rattle.bits.proofs.Zeros.{bytes_zeros}
use Rattle.rules.specs.Claim.{Means, Answers}
use Rattle.rules.specs.First.{holds, first}
use Rattle.rules.specs.Answer.{if_done}
use Rattle.rules.proofs.AnswerLaws.{refused-stays}
use Rattle.rules.proofs.ClaimLaws.{holds_means, means-holds}
use Rattle.rules.proofs.First.{answers-exactly}
use Rattle.fields.specs.declared.Layout.{Layout}
use Rattle.fields.specs.declared.Span.{Span}
use Rattle.fields.specs.Lists.{list_of}
use Rattle.fields.specs.Ends.{end_to_end}
use Rattle.fields.specs.Fields.{fields, stores, fit, fit_rules}
use Rattle.fields.specs.Packed.{pack_number, packed}
use Rattle.fields.proofs.Laws.{fields-stores, stores-whole, fit-fields}

-- every value fits: 0; one does not: 26
pub taken-fit : (k : Layout) (vs : List ℕ) → Means (fit (list_of k) vs) → pack_number k vs ≡ 0
unfolding pack_number first
taken-fit k vs m = rw (means-holds (fit (list_of k) vs) m)

pub refused-wide : (k : Layout) (vs : List ℕ) → (Means (fit (list_of k) vs) → ⊥) → pack_number k vs ≡ 26
unfolding pack_number first
refused-wide k vs bad = go (holds (fit (list_of k) vs)) refl
  where
    go : (b : Bool) → holds (fit (list_of k) vs) ≡ b → pack_number k vs ≡ 26
    go true e = absurd (bad (holds_means (fit (list_of k) vs) e))
    go false e = rw e

fit-taken : (k : Layout) (vs : List ℕ) → pack_number k vs ≡ 0 → Means (fit (list_of k) vs)
unfolding pack_number first
fit-taken k vs z = go (holds (fit (list_of k) vs)) refl
  where
    go : (b : Bool) → holds (fit (list_of k) vs) ≡ b → Means (fit (list_of k) vs)
    go true e = holds_means (fit (list_of k) vs) e
    go false e = absurd (let q : 26 ≡ 0 = (rw e at z) in omega arith)

-- refused exactly where a value is too wide, and the number is 26
pub packed_exactly : (k : Layout) (vs : List ℕ) → ((pack_number k vs ≡ 0) ↔ Means (fit (list_of k) vs)) × ((pack_number k vs ≡ 26) ↔ (Means (fit (list_of k) vs) → ⊥))
packed_exactly k vs = (
  (fit-taken k vs, taken-fit k vs),
  ((λ e m. let z = taken-fit k vs m in omega arith), refused-wide k vs),
)

stored : (n : ℕ) (l : List ℕ) (ps : List Span) (vs : List ℕ) → n ≡ 0 → if_done n (stores l ps vs) l ≡ stores l ps vs
stored n l ps vs e = rw e

-- the number, as an encoder gives it: with entry 0
pub pack_exactly : (k : Layout) (vs : List ℕ) (n e : ℕ) → ((pack_number k vs ≡ n) × (0 ≡ e)) ↔ Answers (fit_rules k vs) n e
unfolding pack_number
pack_exactly k vs = answers-exactly (fit_rules k vs) (omega arith, tt)

-- refused, the bytes are zeros
pub packed_zeros : (k : Layout) (n : ℕ) (vs : List ℕ) → pack_number k vs ≢ 0 → packed k n vs ≡ replicate n 0
packed_zeros k n vs h = refused-stays (pack_number k vs) (stores (replicate n 0) (list_of k) vs) (replicate n 0) h

module _ (k : Layout) (n : ℕ) (t : T (end_to_end 0 (list_of k) (8 * n))) where
  -- decoding what was encoded gives the values back
  pub decode-encode : (vs : List ℕ) → Means (fit (list_of k) vs) → fields (packed k n vs) (list_of k) ≡ vs
  decode-encode vs m =
      ap (λ (l : List ℕ). fields l (list_of k)) (stored (pack_number k vs) (replicate n 0) (list_of k) vs (taken-fit k vs m))
      ∙ fields-stores 0 (list_of k) (8 * n) t (replicate n 0) vs (omega (arith, length-replicate {A = ℕ} n 0)) m

  -- encoding what was decoded gives the bytes back, and is never refused
  pub encode-decode : (b : List ℕ) → Bytes b → length b ≡ n → (pack_number k (fields b (list_of k)) ≡ 0) × (packed k n (fields b (list_of k)) ≡ b)
  encode-decode b h e =
      let z = taken-fit k (fields b (list_of k)) (fit-fields b (list_of k)) in
      let u : T (end_to_end 0 (list_of k) (8 * length b)) = rw e t in (
        z,
        stored (pack_number k (fields b (list_of k))) (replicate n 0) (list_of k) (fields b (list_of k)) z
            ∙ stores-whole (list_of k) (replicate n 0) b u (bytes_zeros n) h (length-replicate {A = ℕ} n 0 ∙ sym e),
      )

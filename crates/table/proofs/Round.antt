-- The chain table both ways: its elements are a list of fields that meet end to end, with zero bits after them. Assumes nothing.
use mathlib.Core.Path.{◌≡◌, refl, sym, ap, ◌∙◌}
use mathlib.Core.Logic.{◌↔◌, ◌≢◌, inr, ⊎_elim}
use mathlib.Core.List.{List, ◌++◌}
use Prim.Native.Nat.{ℕ, zero, suc, ◌+◌, ◌-◌, ◌*◌, ◌≤◌}
use native.Mathlib.Omega.{arith}
use lib.Dec.{T}
use lib.ListN.{length, replicate, length-replicate}
use Rattle.bits.specs.Bits.{Bytes, bit, field}
use Rattle.bits.proofs.Laws.{lt-or-le, bit_past, field_lt}
use Rattle.bits.proofs.Zeros.{bytes_zeros, bit_zeros, field_of_zeros, zeros_of-field}
use Rattle.chains.specs.Psi.{Ψ}
use Rattle.fields.specs.Ends.{end_to_end}
use Rattle.fields.specs.Fields.{fit}
use Rattle.fields.proofs.Laws.{length_fields, length-stores, fields-stores, stores_onto, bit-stores_out}
use Rattle.rules.specs.Claim.{Means, Kept, Answers}
use Rattle.rules.proofs.First.{kept-of-first, first-of-kept, taken-exactly, answers-exactly}
use Rattle.table.specs.Table.{element_places, encode_rules, decode_rules}
use Rattle.table.specs.Coded.{encode_number, packed_table, encode_in, decode_number, elements_in, elements_of, decode_of}
use Rattle.table.proofs.Places.{length-places, nth-places, places-joined, element-is}
use Rattle.table.proofs.Rules.{encode_numbered, decode_numbered, table-room, encode-taken-gives, decode-taken-gives}

-- ---- exactly, in order, and one answer

pub encode_exactly : (s : ℕ) (es : List ℕ) (room n e : ℕ) → ((encode_number s es room ≡ n) × (0 ≡ e)) ↔ Answers (encode_rules s es room) n e
unfolding encode_number
encode_exactly s es room = answers-exactly (encode_rules s es room) (encode_numbered s es room)

pub table_decoded_exactly : (s n : ℕ) → (decode_number s n ≡ 0) ↔ Kept (decode_rules s n)
unfolding decode_number
table_decoded_exactly s n = taken-exactly (decode_rules s n) (decode_numbered s n)

module _ (s : ℕ) (b : List ℕ) where
  pub decode-exactly : (n e : ℕ) → (((decode_of s b).number ≡ n) × ((decode_of s b).entry ≡ e)) ↔ Answers (decode_rules s (length b)) n e
  unfolding decode_number
  decode-exactly n e =
      let q = is (decode_number s (length b)) in
      rw (q.0, q.1) (answers-exactly (decode_rules s (length b)) (decode_numbered s (length b)) n e)
    where
      is : (k : ℕ) → ((elements_of k s b).number ≡ k) × ((elements_of k s b).entry ≡ 0)
      is zero = (refl, refl)
      is (suc k) = (refl, refl)

  -- refused, the decoder gives zeros
  pub undecoded-zeros : (decode_of s b).number ≢ 0 → ((decode_of s b).count ≡ 0) × ((decode_of s b).elements ≡ replicate 252 0)
  undecoded-zeros h = go (decode_number s (length b)) h
    where
      go : (k : ℕ) → (elements_of k s b).number ≢ 0 → ((elements_of k s b).count ≡ 0) × ((elements_of k s b).elements ≡ replicate 252 0)
      go zero h = absurd (h refl)
      go (suc k) h = (refl, refl)

-- ---- the list of the elements

from_zero : (s : ℕ) → T (end_to_end 0 (element_places s) (Ψ s * (s - 3)))
from_zero s =
    let e : 0 + Ψ s * (s - 3) ≡ Ψ s * (s - 3) = omega arith in
    rw e at (places-joined (Ψ s) 0 (s - 3))

-- what a decoding that is taken gives
pub decoded : (s : ℕ) (b : List ℕ) → (decode_of s b).number ≡ 0
    → ((decode_of s b).count ≡ s - 3) × ((decode_of s b).elements ≡ elements_in s b ++ replicate (252 - (s - 3)) 0)
decoded s b z = go (decode_number s (length b)) z
  where
    go : (n : ℕ) → (elements_of n s b).number ≡ 0 → ((elements_of n s b).count ≡ s - 3) × ((elements_of n s b).elements ≡ elements_in s b ++ replicate (252 - (s - 3)) 0)
    go zero z = (refl, refl)
    go (suc n) z = absurd (omega arith)

-- ---- decoding what was encoded

module _ (s : ℕ) (es l : List ℕ) (k : encode_number s es (length l) ≡ 0) where
  elements-fit : Means (fit (element_places s) es)
  unfolding encode_number
  elements-fit =
      let t = encode-taken-gives s es (length l) k in
      let m = kept-of-first (encode_rules s es (length l)) (encode_numbered s es (length l)) k in
      let n = length-places (Ψ s) 0 (s - 3) in
      (t.count ∙ sym n, λ i h. rw (nth-places (Ψ s) 0 (s - 3) i (omega arith)) (m.1.1.1.1.0 i (omega (arith, t.count))))

  pub encoded : encode_in s es l ≡ packed_table s es (length l)
  encoded = rw k

  elements-back : elements_in s (packed_table s es (length l)) ≡ es
  elements-back =
      let t = encode-taken-gives s es (length l) k in
      fields-stores 0 (element_places s) (Ψ s * (s - 3)) (from_zero s) (replicate (length l) 0) es
      (omega (arith, length-replicate {A = ℕ} (length l) 0, table-room s, t.size)) elements-fit

  decoded-too : decode_number s (length l) ≡ 0
  unfolding decode_number
  decoded-too =
      let t = encode-taken-gives s es (length l) k in
      first-of-kept (decode_rules s (length l)) (decode_numbered s (length l)) (t.least, (t.most, (t.size, tt)))

  pub table-back : decode_of s (encode_in s es l) ≡ record { number = 0; entry = 0; count = s - 3; elements = es ++ replicate (252 - (s - 3)) 0 }
  table-back =
      let n : length (packed_table s es (length l)) ≡ length l = length-stores (replicate (length l) 0) (element_places s) es ∙ length-replicate {A = ℕ} (length l) 0 in
      rw (encoded, n, decoded-too, elements-back)

-- ---- encoding what was decoded

-- the bits after the last element, as one number
abbrev pub padding : ℕ → List ℕ → ℕ
padding s b = field b (Ψ s * (s - 3)) (8 * length b - Ψ s * (s - 3))

module _ (s : ℕ) (b : List ℕ) (bytes : Bytes b) (k : decode_number s (length b) ≡ 0) where
  -- the encoder takes what was decoded
  pub decoded-taken : encode_number s (elements_in s b) (length b) ≡ 0
  unfolding encode_number
  decoded-taken =
      let t = decode-taken-gives s (length b) k in
      let n : length (elements_in s b) ≡ s - 3 = length_fields b (element_places s) ∙ length-places (Ψ s) 0 (s - 3) in
      first-of-kept (encode_rules s (elements_in s b) (length b)) (encode_numbered s (elements_in s b) (length b)) (
        t.least,
        (
          t.most,
          (
            n,
            (
              t.size,
              ((λ i h. omega (arith, element-is (Ψ s) (s - 3) i b (omega arith), field_lt b (Ψ s * i) (Ψ s))), tt),
            ),
          ),
        ),
      )

  -- the bytes come back exactly where the padding is zero
  pub table-again : (packed_table s (elements_in s b) (length b) ≡ b) ↔ (padding s b ≡ 0)
  table-again = (there, back)
    where
      there : packed_table s (elements_in s b) (length b) ≡ b → padding s b ≡ 0
      there e =
          let t = decode-taken-gives s (length b) k in
          field_of_zeros b (Ψ s * (s - 3)) (8 * length b - Ψ s * (s - 3))
          (λ j h. ap (λ (m : List ℕ). bit m (Ψ s * (s - 3) + j)) (sym e)
          ∙ bit-stores_out 0 (element_places s) (Ψ s * (s - 3)) (from_zero s) (replicate (length b) 0) (elements_in s b) (Ψ s * (s - 3) + j) (inr (omega arith))
          ∙ bit_zeros (length b) (Ψ s * (s - 3) + j))

      back : padding s b ≡ 0 → packed_table s (elements_in s b) (length b) ≡ b
      back z =
          let t = decode-taken-gives s (length b) k in
          stores_onto 0 (element_places s) (Ψ s * (s - 3)) (from_zero s) (replicate (length b) 0) b (bytes_zeros (length b)) bytes
          (length-replicate {A = ℕ} (length b) 0) (omega (arith, table-room s, t.size))
          (λ i o. bit_zeros (length b) i ∙ sym (⊎_elim (λ h. absurd (omega arith)) (after i) o))
        where
          after : (i : ℕ) → Ψ s * (s - 3) ≤ i → bit b i ≡ 0
          after i h =
              ⊎_elim (λ l. ap (bit b) (omega arith) ∙ zeros_of-field b (Ψ s * (s - 3)) (8 * length b - Ψ s * (s - 3)) z (i - Ψ s * (s - 3)) (omega arith))
              (λ l. bit_past b i l) (lt-or-le i (8 * length b))

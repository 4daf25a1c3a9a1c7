-- The table's buffer and the decoder's answer, taken and refused. Assumes nothing.
use Rattle.std.proofs.Common.{◌≡◌, ◌≢◌, refl, sym, List, ◌++◌, ℕ, zero, suc, ◌-◌, length, drop, replicate, Ok, Err}
use Rattle.chains.specs.Psi.{Ψ}
use Rattle.fields.specs.Fields.{stores}
use Rattle.rules.specs.declared.Reason.{Reason}
use Rattle.rules.specs.Reasons.{number}
use Rattle.rules.proofs.ReasonLaws.{number-ne0}
use Rattle.table.specs.declared.Elements.{Elements}
use Rattle.table.specs.Table.{places}
use Rattle.table.specs.Coded.{encode_number, encode_in, elements_in, decode_number, decode_of, elements_of, coded_table}
use Rattle.std.proofs.lemmas.List.{drop-replicate}
use Rattle.table.proofs.Rules.{encode-taken-gives}

pub done : (s : ℕ) (es l : List ℕ) {p q : ℕ} {z : List ℕ} → 0 ≡ encode_number s es (length l) → q ≡ s → p ≡ Ψ q
    → z ≡ stores (replicate (length l) 0) (places p 0 (length es)) es
    → (0 ≡ encode_number s es (length l)) × (z ≡ encode_in s es l)
done s es l e q p d =
    let t = encode-taken-gives s es (length l) (sym e) in
    rw (← e, d, p, q) (refl, rw t.count)

-- what a decoder answers, of the count and the buffer that it leaves
module _ (s : ℕ) (b : List ℕ) where
  pub taken : {n : ℕ} {z : List ℕ} → 0 ≡ decode_number s (length b) → n ≡ s - 3
      → z ≡ elements_in s b ++ drop (s - 3) (replicate 252 0)
      → coded_table (Ok (record { count = n; elements = z })) ≡ decode_of s b
  taken e k d = rw (d, ← e, k, drop-replicate {X = ℕ} (s - 3) 252 0)

  pub refused : (r : Reason) → number r ≡ decode_number s (length b) → coded_table (Err r) ≡ decode_of s b
  refused r e = rw (← e) (out (number r) (number-ne0 r))
    where
      out : (n : ℕ) → n ≢ 0 → ◌≡◌ {A = Elements} (record { number = n; entry = 0; count = 0; elements = replicate 252 0 }) (elements_of n s b)
      out zero h = absurd (h refl)
      out (suc n) h = refl
